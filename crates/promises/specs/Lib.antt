pub mod Clean
pub mod Laws
pub mod Closings
pub mod StartedRasters
pub mod Comparisons
