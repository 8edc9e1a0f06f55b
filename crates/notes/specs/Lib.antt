pub mod Note
pub mod ItemNotes
pub mod StateNotes
pub mod Notes
pub mod Carriers
