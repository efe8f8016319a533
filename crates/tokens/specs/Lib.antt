pub mod Owners
pub mod Properties
pub mod Shared
pub mod Tokens
