pub mod Keeping
mod Logged
