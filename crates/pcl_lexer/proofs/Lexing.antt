-- Of the lexer, and of what is decided.
pub mod Decided
pub mod Spans
pub mod Bounds
pub mod Opening
pub mod FirstModes
pub mod Pieces
pub mod Steps
pub mod Stepped
pub mod Passed
