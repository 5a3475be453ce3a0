pub mod Lives
pub mod Events
pub mod Adopt
pub mod After
pub mod Returns
pub mod Laws
