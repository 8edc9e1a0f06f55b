pub mod Failing
pub mod Limits
pub mod Numbers
