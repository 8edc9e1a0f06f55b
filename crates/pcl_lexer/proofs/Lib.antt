pub mod PjlLines
pub mod Reading
pub mod Lexing
pub mod Escapes
mod Examples
pub mod Frames
