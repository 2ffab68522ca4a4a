mod Below
mod Modes
mod Anew
mod PendingLemmas
mod Stops
mod Kept
mod Canvas
mod ClosingLemmas
mod Reached
mod Remade
mod TextLemmas
mod SizeLemmas
mod ProfileLemmas
pub mod Cutting
