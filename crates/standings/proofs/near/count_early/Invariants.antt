use Rattle.std.proofs.Common.{ℕ, ◌<◌, ◌≤◌, length}
use Rattle.standings.specs.Near.{IsLate, IsOrdered}
use Rattle.standings.specs.Standing.{place_at}
use Rattle.standings.proofs.near.count_early.Given as goal

-- none of those that were passed does
abbrev pub invariant-loop-count : goal.invariant-loop-count
invariant-loop-count l = record {
  within : l.count ≤ length l.places;
  late : IsOrdered l.places → (k : ℕ) → l.count ≤ k → k < length l.places → IsLate (place_at l.places k) l.above l.before;
}

abbrev pub decreases-loop-count : goal.decreases-loop-count
decreases-loop-count l = l.count
