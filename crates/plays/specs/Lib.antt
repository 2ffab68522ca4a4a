pub mod Sink
pub mod Sent
