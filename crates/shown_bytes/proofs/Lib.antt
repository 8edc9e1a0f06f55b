pub mod Further
pub mod Texts
