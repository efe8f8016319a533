pub mod Unique
pub mod PlaceLemmas
pub mod OneMap
pub mod RunLemmas
