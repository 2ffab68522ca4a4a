use Rattle.std.proofs.Common.{◌≡◌, IsTrue, false}
use Rattle.xterm_print.specs.ChangeLines.{same_row}
use Rattle.xterm_print.specs.Same.{Agree}
use Rattle.xterm_print.proofs.same.agree_together.Given as goal

-- those so far are equal, or one wasn't
abbrev pub invariant-loop-at : goal.invariant-loop-at
invariant-loop-at l = record {
  agree : IsTrue l.same → Agree l.one l.other l.from l.at;
  differ : l.same ≡ false → same_row l.one l.other ≡ false;
}
