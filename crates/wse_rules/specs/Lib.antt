pub mod Ruling
pub mod Named
