pub mod Tree
pub mod Grammar
pub mod Readers
pub mod Limits
