pub mod ClosestLemmas
mod NamedLemmas
