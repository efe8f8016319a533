pub mod Logged
pub mod Kept
