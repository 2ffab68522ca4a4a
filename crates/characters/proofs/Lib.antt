pub mod Bytes
pub mod Fronts
pub mod Texts
pub mod Widths
pub mod Spacing
pub mod Spelled
