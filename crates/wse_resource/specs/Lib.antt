pub mod Table
pub mod After
pub mod Operated
pub mod Course
pub mod Words
pub mod Same
