use Rattle.std.proofs.Common.{◌≡◌, ◌≤◌, drop, length}
use Rattle.std.specs.Prelude.{None}
use Rattle.tape_check.specs.Header.{behind_last}
use Rattle.tape_check.proofs.header.behind_last.Given as goal

-- no label begins from `at` on
abbrev pub invariant-loop-at : goal.invariant-loop-at
invariant-loop-at l = record {
  within : l.at ≤ length l.text;
  none : behind_last l.label (drop l.at l.text) ≡ None;
}

abbrev pub decreases-loop-at : goal.decreases-loop-at
decreases-loop-at l = l.at
