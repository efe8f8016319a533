pub mod Prefixes
pub mod Places
pub mod SeatChanges
pub mod RuledSteps
