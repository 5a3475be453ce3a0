pub mod PlaceLemmas
pub mod SpliceLemmas
pub mod OrderLemmas
pub mod Utf8Lemmas
