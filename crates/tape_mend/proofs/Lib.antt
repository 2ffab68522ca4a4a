mod LineLemmas
mod FrontLemmas
mod OpeningLemmas
mod TakenLemmas
mod ToldLemmas
mod MendedLemmas
mod LinesLemmas
mod WholeLemmas
