-- The lines of the job language by their rules.
pub mod Syntax
pub mod Units
pub mod FirstView
