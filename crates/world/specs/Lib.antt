pub mod Scene
pub mod Rules
pub mod World
pub mod Lending
