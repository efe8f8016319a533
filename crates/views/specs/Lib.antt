pub mod Keys
pub mod Order
pub mod Views
pub mod Same
pub mod Lettered
