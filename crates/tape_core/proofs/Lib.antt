pub mod DeviceLemmas
pub mod GaveLemmas
mod DigitLemmas
mod SecondsLemmas
pub mod DueLemmas
pub mod FirstLemmas
mod FieldLemmas
mod TimingLemmas
pub mod EditedLemmas
mod WrittenLemmas
pub mod LineLemmas
mod ReadingLemmas
mod CutLemmas
pub mod ReadBackLemmas
mod FaultLemmas
pub mod WordLemmas
pub mod OneReadingLemmas
mod FirstLineLemmas
