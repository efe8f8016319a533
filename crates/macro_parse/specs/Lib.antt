pub mod Found
pub mod Flat
pub mod Levels
pub mod FlatPieces
pub mod Turns
pub mod Faults
pub mod Trees
pub mod Answers
