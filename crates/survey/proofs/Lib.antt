pub mod Turning
pub mod Stepping
pub mod Steps
pub mod Surveying
pub mod Surveyors
pub mod Tallies
pub mod Telling
pub mod OneSurvey
