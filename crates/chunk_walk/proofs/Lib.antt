pub mod TextLemmas
pub mod SeekLemmas
pub mod AskedLemmas
mod ChangeLemmas
mod RunLemmas
