pub mod LockLemmas
pub mod ListedLemmas
