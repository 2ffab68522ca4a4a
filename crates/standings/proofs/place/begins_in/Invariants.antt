use Rattle.std.proofs.Common.{◌≡◌, ℕ, ◌<◌, ◌≤◌, ◌-◌, drop, false, length}
use Rattle.standings.specs.Rows.{row_below}
use Rattle.standings.specs.Standing.{begins, line_text}
use Rattle.standings.proofs.place.begins_in.Given as goal

-- it begins at none of the characters so far
abbrev pub invariant-loop-from : goal.invariant-loop-from
invariant-loop-from l = record {
  within : l.from ≤ length (row_below l.rows l.above).characters;
  none : (k : ℕ) → k < l.from → begins l.text (line_text (drop l.above l.rows)) k ≡ false;
}

abbrev pub decreases-loop-from : goal.decreases-loop-from
decreases-loop-from l = length (row_below l.rows l.above).characters - l.from
