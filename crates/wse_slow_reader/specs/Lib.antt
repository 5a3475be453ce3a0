pub mod Split
pub mod Draft
pub mod Given
pub mod Read
