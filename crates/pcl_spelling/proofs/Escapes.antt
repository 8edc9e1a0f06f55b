-- Of the numbers of escape sequences.
pub mod WholeNumbers
