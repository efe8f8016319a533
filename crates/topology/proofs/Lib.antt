pub mod OrderLemmas
pub mod WallLemmas
pub mod SightLemmas
pub mod PathLemmas
