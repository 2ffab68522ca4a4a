pub mod Safe
pub mod Steps
mod Bound
mod Runs
mod Taken
mod Feeding
pub mod Printed
pub mod Rowless
pub mod Obeyed
