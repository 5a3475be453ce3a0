pub mod StatusLemmas
pub mod PathLemmas
pub mod DoneLemmas
pub mod ShowingLemmas
