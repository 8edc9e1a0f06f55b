-- Of the spellings of lines of the job language.
pub mod Spellings
