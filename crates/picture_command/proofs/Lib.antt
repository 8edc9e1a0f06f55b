mod Spots
mod Words
mod Searches
mod Endings
pub mod Commands
