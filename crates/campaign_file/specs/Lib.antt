pub mod Campaign
pub mod Macros
pub mod Seats
