pub mod Fields
pub mod Kinds
pub mod Lines
pub mod Objects
pub mod Values
pub mod Order
