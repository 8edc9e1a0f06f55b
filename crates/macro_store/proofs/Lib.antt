pub mod Laid
pub mod BodyItems
pub mod Modes
pub mod Calls
pub mod KeptCommands
