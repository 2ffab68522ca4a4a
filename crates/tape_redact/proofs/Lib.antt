mod RedactLemmas
mod AheadLemmas
mod ReadLemmas
mod TextLemmas
