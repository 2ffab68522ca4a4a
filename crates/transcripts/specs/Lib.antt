pub mod Transcript
pub mod Told
pub mod Law
pub mod Acting
pub mod PlainText
