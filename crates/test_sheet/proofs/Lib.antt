pub mod Appending
pub mod Columns
pub mod Enumerated
pub mod PartsInTurn
