pub mod Letters
pub mod Maps
pub mod MapFaults
