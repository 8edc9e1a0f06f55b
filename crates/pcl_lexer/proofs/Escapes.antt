-- Of escape sequences, and of their numbers.
pub mod Digits
pub mod FaultHeads
pub mod FieldEnds
pub mod Fields
pub mod Heads
pub mod Limits
pub mod Shapes
pub mod ShortFields
pub mod Tables
pub mod Counted
pub mod Ungrouped
pub mod Values
pub mod ReadCommands
