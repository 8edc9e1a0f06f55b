pub mod Appending
mod Cutting
mod Examples
mod GroupFacts
mod JobSentences
mod Within
