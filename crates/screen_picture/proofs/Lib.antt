mod LineLemmas
mod PlainLemmas
mod LetterLemmas
