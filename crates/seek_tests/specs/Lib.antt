pub mod Strip
pub mod Lines
