pub mod Pairs
pub mod Laws
pub mod Combine
pub mod Longest
pub mod Number
pub mod Placed
