pub mod Cuts
pub mod CutEdits
pub mod States
pub mod Law
pub mod Making
