mod TextLemmas
mod GroupLemmas
mod DotLemmas
