pub mod Slow
pub mod After
