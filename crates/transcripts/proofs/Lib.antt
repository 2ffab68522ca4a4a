pub mod RowLemmas
pub mod ToldLemmas
mod LeftLemmas
mod Telling
