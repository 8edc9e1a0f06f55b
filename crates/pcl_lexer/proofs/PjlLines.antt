-- Of the lines of the job language.
pub mod Laws
pub mod Spans
pub mod Trims
pub mod Reads
pub mod Agreement
pub mod Units
pub mod Canonical
mod LineExamples
pub mod Exits
pub mod Heads
mod Examples
pub mod Opening
