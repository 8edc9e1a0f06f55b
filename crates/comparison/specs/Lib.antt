pub mod Changes
pub mod Comparison
pub mod Running
pub mod Comparing
pub mod Laws
pub mod Nearness
pub mod Texts
pub mod Together
