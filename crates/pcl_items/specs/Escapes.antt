-- Mode PCL: control codes, and escape sequences with and without a group.
pub mod Value
pub mod ValueField
pub mod Commands
pub mod Codes
pub mod SetLetters
