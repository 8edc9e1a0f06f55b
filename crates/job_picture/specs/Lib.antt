pub mod Progress
pub mod Failing
pub mod Sheet
pub mod JobPicture
pub mod Carriers
