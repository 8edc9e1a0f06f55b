-- What the loop of a text carries from one item to the next, and what its parts promise one another.
-- A reader of the texts needs none of it.
pub mod Rendering
pub mod Rendered
pub mod PageRendering
pub mod Rooms
pub mod Rests
