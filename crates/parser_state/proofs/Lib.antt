pub mod PendingLemmas
mod TextLemmas
pub mod SizeLemmas
