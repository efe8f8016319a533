pub mod SameLemmas
pub mod SameLoops
mod KeptLetters
pub mod Told
pub mod LetteredLemmas
pub mod Orders
pub mod InOrder
