mod RowExamples
mod WordExamples
pub mod Additions
pub mod Amounts
pub mod ChoiceFacts
pub mod CodeRanges
pub mod Examples
pub mod Finished
pub mod GivenKeys
mod LikePrinters
mod Listed
pub mod LineParts
pub mod Order
pub mod Parts
pub mod Reading
pub mod RowNumbers
pub mod Samples
pub mod ScanFacts
pub mod Singles
pub mod Sound
pub mod TextLaws
pub mod Valid
pub mod ValueFacts
mod SamePages
mod SameRanges
pub mod SameRequests
