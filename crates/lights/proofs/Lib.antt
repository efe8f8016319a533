pub mod Radii
