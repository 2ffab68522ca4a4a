use Rattle.std.proofs.Common.{◌+◌, ◌-◌, ◌≤◌}
use Rattle.standings.specs.Spans.{characters_in}
use Rattle.standings.proofs.place.reach_start.Given as goal

-- what is left of the text behind the rows so far, but for its first character
abbrev pub invariant-loop-start : goal.invariant-loop-start
invariant-loop-start l = record {
  within : l.start ≤ l.above;
  left : l.len ≤ characters_in l.rows l.start (l.above - l.start) + 1 + l.left;
}

abbrev pub decreases-loop-start : goal.decreases-loop-start
decreases-loop-start l = l.start
