pub mod AskedCode
pub mod CommandsTold
pub mod Explanations
