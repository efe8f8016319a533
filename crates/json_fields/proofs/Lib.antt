pub mod Keys
pub mod OneLine
pub mod Printed
pub mod Reading
pub mod Rising
