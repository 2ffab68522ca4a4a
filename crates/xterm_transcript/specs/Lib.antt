pub mod Rows
pub mod Leaving
pub mod Home
pub mod Transcribed
pub mod Playing
pub mod PlainText
