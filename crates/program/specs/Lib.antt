pub mod Hints
pub mod Program
