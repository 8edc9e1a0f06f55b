pub mod Comparer
pub mod Counts
pub mod Owned
pub mod Recorder
pub mod Same
