-- Of the commands of frames.
mod Examples
mod Jobs
pub mod Languages
pub mod Leaving
pub mod NumberStarts
pub mod Heads
pub mod Reads
pub mod Numerals
pub mod Figures
pub mod Opening
pub mod Waiting
pub mod Skipping
pub mod Pairs
