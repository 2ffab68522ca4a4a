mod ReplayLemmas
mod SessionLemmas
mod EditLemmas
mod HexLemmas
mod RequestLemmas
mod LogLemmas
mod MarkLemmas
mod CallLemmas
