pub mod Addresses
pub mod Messages
