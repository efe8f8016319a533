pub mod Tag
pub mod TokenId
pub mod Words
pub mod Letters
pub mod Values
