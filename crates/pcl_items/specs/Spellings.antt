-- The one spelling of each item.
pub mod Canon
