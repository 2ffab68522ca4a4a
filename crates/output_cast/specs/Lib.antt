pub mod Events
pub mod Json
pub mod Cast
pub mod Line
