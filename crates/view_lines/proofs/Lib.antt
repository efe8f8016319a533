pub mod InOrder
pub mod NoLetters
pub mod Ordered
pub mod RowLemmas
pub mod Texts
