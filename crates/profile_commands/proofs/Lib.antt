mod AskedPapers
mod ReadTexts
mod Sheets
mod Answering
