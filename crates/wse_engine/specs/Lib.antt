pub mod Engine
pub mod Exec
pub mod Doing
pub mod Start
