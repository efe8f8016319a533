pub mod Moments
mod Crash
mod Kept
mod Walk
mod Writes
mod Creates
mod EntryLaws
pub mod LogLaws
mod GateBytes
mod RunLaws
