use Rattle.std.proofs.Common.{ℕ, ◌-◌, ◌≤◌, List, length, take}
use Rattle.standings.specs.Less.{Agree}
use Rattle.standings.specs.Rows.{row_below}
use Rattle.standings.specs.Standing.{count_left}
use Rattle.standings.proofs.alone.keeps_all.Given as goal

-- those so far have as many with the same to the left
abbrev pub invariant-loop-kept : goal.invariant-loop-kept
invariant-loop-kept l = record {
  within : l.kept ≤ length l.places;
  there : l.at ≤ length l.mates;
  agree : Agree (row_below l.rows l.agreed.here).characters (row_below l.others l.agreed.there).characters l.agreed.count;
  counts : (left : List ℕ) → count_left l.rows (take l.kept l.places) left ≤ count_left l.others (take l.at l.mates) left;
}

abbrev pub decreases-loop-kept : goal.decreases-loop-kept
decreases-loop-kept l = length l.mates - l.at
