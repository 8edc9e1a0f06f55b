pub mod Judgements
pub mod Nearby
pub mod PageCounts
pub mod Printers
pub mod ProfileTexts
