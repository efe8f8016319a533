pub mod Added
pub mod Objects
pub mod Tokens
