pub mod Order
pub mod WallLists
pub mod WallFaults
pub mod Sight
pub mod Paths
