mod JsonLemmas
mod CastLemmas
mod TextLemmas
