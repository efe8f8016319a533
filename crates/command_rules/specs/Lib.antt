pub mod Places
pub mod GmRules
pub mod Rules
pub mod MacroRules
