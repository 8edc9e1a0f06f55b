-- Of the one reading of a job.
pub mod Agreement
pub mod FaultRules
pub mod FaultPlaces
pub mod Causes
pub mod ReadsTo
pub mod Readings
pub mod Stopping
