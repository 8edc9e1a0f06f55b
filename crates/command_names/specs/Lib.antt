pub mod CommandNames
pub mod Language
