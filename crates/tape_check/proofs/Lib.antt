mod HeaderLemmas
mod ScanLemmas
mod CountLemmas
mod NoteLemmas
mod TallyLemmas
mod TallyTokens
mod TallyLaw
