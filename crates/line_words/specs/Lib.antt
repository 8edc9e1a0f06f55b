pub mod Figures
pub mod ItemLines
pub mod MarkLines
pub mod Reason
