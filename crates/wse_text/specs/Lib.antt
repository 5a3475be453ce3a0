pub mod Place
pub mod Lines
pub mod Index
pub mod Words
