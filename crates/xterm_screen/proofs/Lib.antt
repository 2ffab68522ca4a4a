mod Tables
mod Soundness
mod Regions
mod Stops
pub mod Runs
mod Parts
mod Screens
