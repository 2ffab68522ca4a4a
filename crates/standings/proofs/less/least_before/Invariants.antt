use Rattle.std.proofs.Common.{ℕ, ◌<◌, ◌≤◌}
use Rattle.standings.specs.Standing.{place_at}
use Rattle.standings.proofs.less.least_before.Given as goal

-- at least behind those of the places so far
abbrev pub invariant-loop-place : goal.invariant-loop-place
invariant-loop-place l = (k : ℕ) → k < l.place-index → l.least ≤ (place_at l.places k).before
