pub mod TokenRules
pub mod FogRules
pub mod SceneRules
pub mod Numbers
pub mod Books
pub mod Makers
