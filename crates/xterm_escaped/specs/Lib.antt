pub mod Colours
pub mod EscapedText
pub mod Redrawn
