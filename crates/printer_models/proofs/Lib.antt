pub mod NotDifferent
pub mod SamePages
