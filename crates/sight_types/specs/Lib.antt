pub mod Ranges
pub mod Sights
