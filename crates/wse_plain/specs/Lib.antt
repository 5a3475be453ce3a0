pub mod Ids
pub mod Fit
