pub mod WithinLemmas
pub mod EntriesLemmas
pub mod AfterLemmas
pub mod OutcomeLemmas
pub mod MovesLemmas
pub mod SlowLemmas
pub mod OverLemmas
