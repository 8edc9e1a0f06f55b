pub mod Check
pub mod JobNotes
pub mod JobTexts
