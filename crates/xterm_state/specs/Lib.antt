pub mod StateText
pub mod Remade
