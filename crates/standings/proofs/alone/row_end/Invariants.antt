use Rattle.std.proofs.Common.{◌≡◌, ℕ, ◌-◌, ◌<◌, ◌≤◌, length}
use Rattle.standings.specs.Standing.{place_at}
use Rattle.standings.proofs.alone.row_end.Given as goal

-- those so far stand in the row
abbrev pub invariant-loop-end : goal.invariant-loop-end
invariant-loop-end l = record {
  further : l.at < l.end;
  within : l.end ≤ length l.places;
  same : (k : ℕ) → l.at ≤ k → k < l.end → (place_at l.places k).above ≡ l.above;
}

abbrev pub decreases-loop-end : goal.decreases-loop-end
decreases-loop-end l = length l.places - l.end
