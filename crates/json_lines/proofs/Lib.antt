pub mod Behind
pub mod Printed
pub mod Steps
