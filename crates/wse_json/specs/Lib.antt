pub mod Annotations
pub mod Commands
pub mod Kinds
pub mod Members
pub mod Noted
pub mod Operations
pub mod Shapes
pub mod TextEdits
