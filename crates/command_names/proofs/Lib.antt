mod NamedFacts
pub mod TableLaws
