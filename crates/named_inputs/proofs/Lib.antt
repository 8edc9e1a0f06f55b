mod ChoiceFacts
mod Examples
pub mod FleetFacts
mod FrontFacts
pub mod InputUses
pub mod TextFacts
