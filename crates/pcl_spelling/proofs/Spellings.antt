-- Of the spellings of items.
pub mod Canonical
pub mod Canons
pub mod ReadAgain
