pub mod Grammar
pub mod Writing
pub mod Reads
pub mod Found
pub mod Scan
pub mod Laws
