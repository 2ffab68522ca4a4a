pub mod Calm
pub mod FindLines
pub mod Foretold
pub mod Lines
pub mod Pieces
