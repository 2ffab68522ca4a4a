use Rattle.std.proofs.Common.{ℕ, ◌<◌, ◌≤◌}
use Rattle.standings.specs.Standing.{place_at}
use Rattle.standings.proofs.place.count_up_to.Given as goal

-- those so far don't
abbrev pub invariant-loop-count : goal.invariant-loop-count
invariant-loop-count l = record {
  within : l.count ≤ l.most;
  late : (k : ℕ) → l.count ≤ k → k < l.most → l.above ≤ (place_at l.places k).above;
}

abbrev pub decreases-loop-count : goal.decreases-loop-count
decreases-loop-count l = l.count
