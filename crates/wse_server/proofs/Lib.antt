pub mod EndLemmas
pub mod Says
