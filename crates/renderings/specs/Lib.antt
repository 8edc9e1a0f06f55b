pub mod Outcomes
pub mod Texts
pub mod PageTexts
pub mod Expected
pub mod Pins
pub mod Carriers
