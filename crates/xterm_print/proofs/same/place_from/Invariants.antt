use Rattle.xterm_print.specs.Same.{Agree}
use Rattle.xterm_print.proofs.same.place_from.Given as goal

-- those so far are equal
abbrev pub invariant-loop-at : goal.invariant-loop-at
invariant-loop-at l = Agree l.one l.other l.from l.at
