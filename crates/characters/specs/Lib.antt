pub mod Utf8
pub mod Width
pub mod Law
