pub mod Pdf
