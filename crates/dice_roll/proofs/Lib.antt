pub mod Order
pub mod Draws
pub mod RollingTerms
