pub mod NextLemmas
pub mod LineLemmas
pub mod MovedLemmas
pub mod BehindLemmas
pub mod EventLemmas
