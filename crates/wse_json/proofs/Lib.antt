pub mod CauseLemmas
pub mod LineLemmas
pub mod SetLemmas
pub mod WalkLemmas
