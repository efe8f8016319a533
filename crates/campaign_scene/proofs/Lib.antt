pub mod Maps
pub mod Tokens
