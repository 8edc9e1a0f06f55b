-- The lines of the job language, and the universal exit before them.
pub mod Exit
pub mod Text
pub mod View
pub mod Reader
pub mod First
pub mod Canon
