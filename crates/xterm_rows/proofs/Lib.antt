pub mod RangeLemmas
pub mod GroupLemmas
pub mod RunLemmas
pub mod BitLemmas
pub mod LetterLemmas
pub mod TextLemmas
pub mod TrimmedLemmas
