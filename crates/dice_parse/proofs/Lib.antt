pub mod Words
pub mod Back
pub mod Turns
pub mod Exact
pub mod Limits
