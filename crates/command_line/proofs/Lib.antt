mod CommandLemmas
mod FlagValues
mod HelpLemmas
mod LineLemmas
mod PlainWords
