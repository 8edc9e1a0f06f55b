pub mod Recording
mod Counting
pub mod Same
pub mod TextLines
