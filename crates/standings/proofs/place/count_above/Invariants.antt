use Rattle.std.proofs.Common.{ℕ, ◌-◌, ◌<◌, ◌≤◌, length}
use Rattle.standings.specs.Standing.{place_at}
use Rattle.standings.proofs.place.count_above.Given as goal

-- those so far do
abbrev pub invariant-loop-count : goal.invariant-loop-count
invariant-loop-count l = record {
  within : l.count ≤ length l.places;
  below : (k : ℕ) → k < l.count → (place_at l.places k).above < l.above;
}

abbrev pub decreases-loop-count : goal.decreases-loop-count
decreases-loop-count l = length l.places - l.count
