pub mod Radii
pub mod Lights
