pub mod Bodies
pub mod Document
pub mod Escapes
pub mod Heads
pub mod Kept
pub mod Links
pub mod Pictures
pub mod Rows
