pub mod Escapes
pub mod PjlLines
pub mod Frames
pub mod Spellings
