pub mod AfterLemmas
pub mod FileLemmas
pub mod HeldLemmas
pub mod OutcomeLemmas
pub mod EffectLemmas
pub mod EditOutcomeLemmas
