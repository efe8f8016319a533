pub mod Script
pub mod Tagged
pub mod Played
pub mod Sending
pub mod Counting
