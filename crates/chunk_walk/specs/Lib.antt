pub mod ChangeLine
pub mod Walk
pub mod Stops
pub mod Runs
