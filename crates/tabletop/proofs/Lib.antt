pub mod AnswerLemmas
pub mod EndsLemmas
pub mod FetchLemmas
mod AnsweredRuns
mod Services
mod ServeLemmas
mod DrillScripts
pub mod DrillLemmas
pub mod Leaves
mod OpenParts
mod Starting
mod Resuming
mod LoggedRuns
mod LoggedEnds
pub mod LoggedServices
pub mod Evenings
