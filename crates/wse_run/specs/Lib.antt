pub mod Complete
pub mod End
pub mod Fault
pub mod Opening
pub mod Refusal
pub mod Run
