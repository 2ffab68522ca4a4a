pub mod Beginning
pub mod Cleaning
pub mod Opening
pub mod Pair
