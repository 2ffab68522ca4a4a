pub mod RowText
pub mod Ink
pub mod OutlineTable
pub mod Outlines
pub mod Groups
pub mod Runs
pub mod Letters
