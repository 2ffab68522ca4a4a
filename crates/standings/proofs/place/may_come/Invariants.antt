use Rattle.std.proofs.Common.{◌≡◌, ℕ, ◌<◌, ◌≤◌, []}
use Rattle.standings.proofs.SpanLemmas.{places_of}
use Rattle.standings.proofs.place.may_come.Given as goal

-- it begins in none of the rows so far
abbrev pub invariant-loop-above : goal.invariant-loop-above
invariant-loop-above l = (k : ℕ) → l.start ≤ k → k < l.above → places_of l.text l.rows k ≡ []
