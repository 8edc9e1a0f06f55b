pub mod Choices
pub mod FileJobs
pub mod FileState
pub mod Fleet
pub mod KeptText
pub mod Texts
