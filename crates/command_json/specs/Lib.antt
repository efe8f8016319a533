pub mod Commands
pub mod EverySeat
pub mod Faults
pub mod Fields
pub mod GameMaster
pub mod Verbs
pub mod Limits
