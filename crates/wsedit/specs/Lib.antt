pub mod Making
pub mod Program
pub mod Showing
pub mod Status
