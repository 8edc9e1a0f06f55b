-- What the check's loop carries from one item to the next, and what its parts promise one another.
-- A reader of the verdict needs none of it.
pub mod Each
pub mod Lockstep
pub mod FleetMode
pub mod TextInStep
pub mod PairsInStep
pub mod FormsInStep
pub mod Checking
pub mod Detached
pub mod Loops
pub mod Rooms
