pub mod Elements
pub mod Files
pub mod Line
pub mod Objects
pub mod Show
