use Rattle.std.proofs.Common.{length}
use Rattle.tape_core.proofs.FirstLineLemmas.{DigitsRead}
use Rattle.tape_core.proofs.timing.first_number.Given as goal

abbrev pub invariant-loop-rest : goal.invariant-loop-rest
invariant-loop-rest l = DigitsRead l.text l.rest l.n

abbrev pub decreases-loop-rest : goal.decreases-loop-rest
decreases-loop-rest l = length l.rest
