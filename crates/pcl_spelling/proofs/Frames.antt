-- Of the spellings of the commands of frames.
pub mod Canonical
pub mod Spellings
