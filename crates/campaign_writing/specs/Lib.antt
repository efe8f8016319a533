pub mod Trees
pub mod Scenes
pub mod Canonical
pub mod Written
pub mod Kept
pub mod Laws
