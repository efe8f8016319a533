pub mod Keeping
pub mod Logged
