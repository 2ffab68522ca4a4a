use Rattle.std.proofs.Common.{◌-◌, ◌≤◌, length}
use Rattle.standings.proofs.alone.next_pair.Given as goal

-- the rows so far don't
abbrev pub invariant-loop-at : goal.invariant-loop-at
invariant-loop-at l = record {
  low : l.from ≤ l.at;
  within : l.at ≤ length l.places;
}

abbrev pub decreases-loop-at : goal.decreases-loop-at
decreases-loop-at l = length l.places - l.at
