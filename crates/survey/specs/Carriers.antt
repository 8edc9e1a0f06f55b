-- What a survey carries from one step to the next, and what its parts promise one another.
-- A reader of the survey needs none of it.
pub mod Steps
pub mod Surveying
pub mod Rooms
