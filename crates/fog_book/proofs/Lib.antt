pub mod Painting
pub mod Changes
pub mod Order
pub mod Adding
pub mod Joining
