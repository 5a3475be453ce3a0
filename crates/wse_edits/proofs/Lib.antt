pub mod SearchLemmas
pub mod InsideLemmas
pub mod PairLemmas
pub mod OverlapLemmas
pub mod FittingLemmas
pub mod RangeLemmas
pub mod SpliceLemmas
