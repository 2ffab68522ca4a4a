pub mod PlainLemmas
pub mod KeptLemmas
pub mod SameLemmas
pub mod TurnedLemmas
pub mod ShownLemmas
mod FindRowLemmas
mod BlankLemmas
mod OverLemmas
mod PlaceLemmas
mod StylingLemmas
mod PutLemmas
mod MarkLemmas
mod RunLemmas
mod PieceLemmas
mod ErasedLemmas
mod MovedLemmas
mod WithinLemmas
