use Rattle.std.proofs.Common.{◌-◌, ◌≤◌, length}
use Rattle.standings.proofs.alone.next_behind.Given as goal

-- those so far are others
abbrev pub invariant-loop-at : goal.invariant-loop-at
invariant-loop-at l = record {
  low : l.from ≤ l.at;
  within : l.at ≤ length l.places;
}

abbrev pub decreases-loop-at : goal.decreases-loop-at
decreases-loop-at l = length l.places - l.at
