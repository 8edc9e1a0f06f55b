pub mod Label
pub mod Figures
pub mod Words
pub mod Panel
pub mod Pages
pub mod Faces
pub mod Shown
