pub mod Range
pub mod Refusal
pub mod Edited
pub mod Fitting
pub mod Words
