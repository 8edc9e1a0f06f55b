mod Behind
pub mod FirstAndRest
mod Inert
