mod JobNotes
pub mod JobTexts
pub mod JudgedFirst
pub mod Leaves
