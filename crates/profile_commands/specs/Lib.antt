pub mod ProfileFromPjl
pub mod ProfileLint
pub mod ProfileList
pub mod ProfileNew
pub mod ProfileReading
pub mod ProfileSheet
pub mod ProfileShow
pub mod WholeText
