pub mod Redacted
pub mod Recording
pub mod Law
pub mod Ahead
