pub mod Fleets
pub mod Handle
pub mod SessionHandle
pub mod Sessions
