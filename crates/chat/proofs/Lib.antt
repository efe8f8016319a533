pub mod SeatBits
pub mod OneLines
