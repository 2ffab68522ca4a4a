use Rattle.std.proofs.Common.{length}
use Rattle.tape_check.proofs.TallyLemmas.{Fed}
use Rattle.tape_check.proofs.tally.Reader.take.Given as goal

-- the bytes so far were taken
abbrev pub invariant-loop-rest : goal.invariant-loop-rest
invariant-loop-rest l = Fed l.initial.self l.self l.bytes l.rest

abbrev pub decreases-loop-rest : goal.decreases-loop-rest
decreases-loop-rest l = length l.rest
