pub mod Differing
pub mod Document
pub mod DrawnPages
pub mod FixedParts
pub mod Lists
pub mod Marks
pub mod Picture
pub mod Sheets
