pub mod Marks
pub mod Strings
pub mod Numbers
pub mod Values
pub mod Shown
pub mod Listed
pub mod Arrays
