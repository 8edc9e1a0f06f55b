pub mod PageSearch
pub mod Picture
pub mod Carriers
pub mod SearchedRests
