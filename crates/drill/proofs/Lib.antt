pub mod TagLemmas
pub mod Maps
pub mod Tokens
pub mod Lines
pub mod Walls
pub mod Written
pub mod Sizes
pub mod Playable
