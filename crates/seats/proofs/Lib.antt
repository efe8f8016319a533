pub mod Copies
pub mod Books
pub mod Tags
