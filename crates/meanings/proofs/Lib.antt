mod ChapterFacts
mod CommandFacts
pub mod ExplainFacts
mod ExplainedReasons
