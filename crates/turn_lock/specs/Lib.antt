pub mod Pass
pub mod SeatView
pub mod Seat
pub mod Order
pub mod Steps
