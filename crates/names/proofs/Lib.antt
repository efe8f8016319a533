pub mod TagBytes
pub mod IdTexts
pub mod SameIds
pub mod WordTexts
