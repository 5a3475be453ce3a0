pub mod Fronts
pub mod Work
pub mod Laws
