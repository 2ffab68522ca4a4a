use Rattle.std.proofs.Common.{◌-◌, ◌≤◌}
use Rattle.xterm_print.specs.Same.{Agree}
use Rattle.xterm_print.proofs.same.same_up_to.Given as goal

-- those so far are equal
abbrev pub invariant-loop-at : goal.invariant-loop-at
invariant-loop-at l = record {
  high : l.at ≤ l.end;
  same : Agree l.one l.other 0 l.at;
}

abbrev pub decreases-loop-at : goal.decreases-loop-at
decreases-loop-at l = l.end - l.at
