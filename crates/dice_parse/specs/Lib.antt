pub mod Grammar
pub mod Readers
pub mod Groups
pub mod Faults
pub mod Answers
