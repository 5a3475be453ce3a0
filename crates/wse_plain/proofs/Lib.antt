pub mod LinkedLemmas
pub mod FirstLemmas
pub mod SearchLemmas
pub mod PutLemmas
