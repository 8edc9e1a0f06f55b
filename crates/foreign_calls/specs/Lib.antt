pub mod Answers
pub mod Checked
pub mod Drawn
pub mod Explained
pub mod Limits
pub mod Panels
pub mod Texts
