use Rattle.tape_seek.proofs.CallLemmas.{runs_are_told}
use Rattle.tape_seek.proofs.laws.calls_tell_the_marks.Goals as goal

pub returns : goal.returns
returns c = runs_are_told
