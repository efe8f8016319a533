pub mod OwnerLemmas
pub mod PropertyLemmas
pub mod OrderLemmas
pub mod TokenLemmas
pub mod CoverLemmas
pub mod LookupLaws
