mod LineLemmas
mod EventLemmas
