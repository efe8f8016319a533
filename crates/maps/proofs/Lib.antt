pub mod LetterLemmas
pub mod NameLemmas
pub mod MapLemmas
pub mod Laws
