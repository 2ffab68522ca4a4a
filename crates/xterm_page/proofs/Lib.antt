pub mod SameLemmas
pub mod EqualLemmas
pub mod KeptLemmas
pub mod StringLemmas
pub mod UsedLemmas
pub mod RenewedLemmas
pub mod CaughtLemmas
pub mod ComeLemmas
pub mod DistinctLemmas
pub mod MarkLemmas
pub mod PageLemmas
pub mod Replays
mod ReadLemmas
mod ReadBack
mod ReadRecordings
