pub mod Further
pub mod LateErrors
pub mod Parts
pub mod SamePrinter
