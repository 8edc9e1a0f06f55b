-- Items by their spellings.
pub mod Spelled
