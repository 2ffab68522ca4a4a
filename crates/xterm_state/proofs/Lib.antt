pub mod Brings
mod Anew
mod Ways
mod Stops
mod Sheets
mod Modes
mod Again
mod ClosingLemmas
mod Last
mod Standing
mod Comes
mod Pending
mod Reached
mod Remade
mod SizeLemmas
mod TextLemmas
pub mod Cutting
