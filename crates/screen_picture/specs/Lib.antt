pub mod Letters
pub mod Strokes
pub mod Grounds
pub mod Framed
pub mod Cursor
pub mod Picture
