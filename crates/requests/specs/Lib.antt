pub mod Comparisons
pub mod ManyWords
pub mod Selection
pub mod Status
pub mod Words
