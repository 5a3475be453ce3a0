pub mod LeftLemmas
pub mod StandLemmas
pub mod StepLemmas
pub mod EngineLemmas
