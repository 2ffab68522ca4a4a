mod ArrayLemmas
pub mod FrontLemmas
pub mod ListedLemmas
mod MarkLemmas
pub mod MemberLemmas
pub mod NumberLemmas
mod PieceLemmas
mod PlainLemmas
pub mod ScalarLemmas
pub mod StringFronts
mod StringLemmas
mod TripleLemmas
pub mod ValueFronts
mod ValueLemmas
