use Rattle.std.proofs.Common.{◌-◌, ◌≤◌}
use Rattle.screen_print.proofs.lost.ended_end.Given as goal

-- so far down none ends its line
abbrev pub invariant-loop-at : goal.invariant-loop-at
invariant-loop-at l = l.at ≤ l.end

abbrev pub decreases-loop-at : goal.decreases-loop-at
decreases-loop-at l = l.at - l.line
