pub mod LawLemmas
pub mod ReadingLemmas
pub mod SplitLemmas
pub mod Utf8Lemmas
pub mod WritingLemmas
