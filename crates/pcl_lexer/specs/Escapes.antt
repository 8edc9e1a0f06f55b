-- Mode PCL: the value field, and escape sequences with and without a group.
pub mod Ungrouped
pub mod FieldFaults
pub mod Field
pub mod FieldEnd
pub mod ReadCommands
