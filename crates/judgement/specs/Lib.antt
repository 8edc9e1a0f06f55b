pub mod FailingItem
pub mod Failing
pub mod Wrong
pub mod Verdict
