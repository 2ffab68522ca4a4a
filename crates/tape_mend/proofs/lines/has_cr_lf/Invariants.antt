use Rattle.std.proofs.Common.{◌≡◌, length}
use Rattle.tape_mend.specs.Lines.{has_cr_lf}
use Rattle.tape_mend.proofs.lines.has_cr_lf.Given as goal

abbrev pub invariant-loop-rest : goal.invariant-loop-rest
invariant-loop-rest l = has_cr_lf l.timing ≡ has_cr_lf l.rest

abbrev pub decreases-loop-rest : goal.decreases-loop-rest
decreases-loop-rest l = length l.rest
