pub mod Rects
pub mod Exposures
