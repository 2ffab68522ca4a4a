mod BlockLemmas
mod GlyphLemmas
pub mod RangeLemmas
pub mod SameLemmas
pub mod TextLemmas
pub mod RunLemmas
pub mod ChangedLemmas
mod KeptLemmas
