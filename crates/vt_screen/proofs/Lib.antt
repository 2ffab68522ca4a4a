pub mod Answers
mod Blanked
pub mod Drawing
mod Erased
mod Index
pub mod Regions
mod Rows
pub mod Runs
mod Scrolled
pub mod SoundRows
pub mod Soundness
mod Stops
pub mod Tables
mod Told
mod Turns
mod Packed
