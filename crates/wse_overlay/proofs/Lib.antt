pub mod AboveLemmas
pub mod ShownLemmas
pub mod MergedLemmas
pub mod RangeLemmas
