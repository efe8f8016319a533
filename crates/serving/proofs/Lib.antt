pub mod PrintedLines
pub mod Undisturbed
pub mod Admissions
pub mod Gatherings
pub mod Servings
pub mod Hostings
