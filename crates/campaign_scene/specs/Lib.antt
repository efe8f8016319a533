pub mod Kept
pub mod Fog
pub mod Maps
pub mod Tokens
pub mod Types
