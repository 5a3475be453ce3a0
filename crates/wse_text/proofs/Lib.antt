pub mod LineLemmas
pub mod UnitLemmas
pub mod WalkLemmas
pub mod PointLemmas
pub mod CutLemmas
pub mod MarkLemmas
