pub mod FileUrl
pub mod Segments
pub mod Reading
pub mod Writing
pub mod Words
