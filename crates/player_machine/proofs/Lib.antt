pub mod Seated
pub mod SameLoops
pub mod SameLemmas
pub mod Printed
