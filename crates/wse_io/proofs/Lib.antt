pub mod StreamLemmas
pub mod LineLemmas
pub mod ReaderLemmas
mod HeldLemmas
mod Reading
mod MemLemmas
