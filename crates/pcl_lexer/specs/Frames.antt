-- Frames: the bytes of the commands of HP-GL/2.
pub mod Kinds
pub mod NumberText
pub mod NumeralFaults
pub mod CommandParts
pub mod Grammar
pub mod Faults
pub mod Number
pub mod NumeralView
pub mod Reader
pub mod Pairs
