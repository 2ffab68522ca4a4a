mod Tables
mod Numbers
mod Rows
mod Shifts
mod Marks
mod Runs
mod Index
pub mod Came
mod Turns
mod Wholes
mod First
mod Packed
mod Used
pub mod Over
mod Marked
