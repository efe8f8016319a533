pub mod KeptLemmas
mod Stops
mod Sizes
mod Whole
mod LineEntries
