use Rattle.std.proofs.Common.{◌≡◌, ◌<◌, ◌≤◌, ℕ, true}
use Rattle.standings.specs.Follow.{has_length}
use Rattle.standings.specs.Rows.{row_below}
use Rattle.standings.proofs.follow.have_length.Given as goal

-- those so far have
abbrev pub invariant-loop-above : goal.invariant-loop-above
invariant-loop-above l = (k : ℕ) → l.from ≤ k → k < l.above → has_length (row_below l.rows k) (row_below l.others k) ≡ true
