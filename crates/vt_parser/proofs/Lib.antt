pub mod Numbers
mod Table
pub mod Shapes
mod Growing
mod Joins
pub mod Agrees
mod Endings
pub mod ManyBytes
pub mod LawLemmas
pub mod Whole
pub mod Written
mod Collecting
mod Telling
mod Lanes
mod Waits
