mod Walks
pub mod OutletFacts
pub mod Pieces
pub mod Driving
pub mod Uses
