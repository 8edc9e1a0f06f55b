pub mod Plan
pub mod Telling
pub mod Sheet
pub mod JobPdf
pub mod Carriers
