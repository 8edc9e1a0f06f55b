pub mod Each
pub mod FirstFault
mod LintFacts
mod Loops
pub mod Pushed
mod WordsAt
