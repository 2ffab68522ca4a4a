mod DecimalLemmas
mod NumberLemmas
pub mod PageLemmas
mod ReadBack
pub mod ReadLemmas
pub mod Replays
pub mod StringLemmas
