mod Led
mod Drawings
mod Tellings
mod Sheets
