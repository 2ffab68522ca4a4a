use Rattle.std.proofs.Common.{◌-◌, length}
use Rattle.tape_cut.proofs.PuttingLemmas.{IsPutting}
use Rattle.tape_cut.proofs.making.put_in.Given as goal

-- the first bytes of the text are put in
abbrev pub invariant-loop-start : goal.invariant-loop-start
invariant-loop-start g l = IsPutting l.fn.session l.session l.at l.delay l.text l.place l.wait l.start

abbrev pub decreases-loop-start : goal.decreases-loop-start
decreases-loop-start g l = length l.text - l.start
