pub mod Stream
pub mod Lines
pub mod Held
pub mod Reader
pub mod Mem
pub mod Adapted
