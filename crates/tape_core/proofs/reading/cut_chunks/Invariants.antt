use Rattle.std.proofs.Common.{length}
use Rattle.tape_core.proofs.CutLemmas.{CutSoFar}
use Rattle.tape_core.proofs.reading.cut_chunks.Given as goal

abbrev pub invariant-loop-rest : goal.invariant-loop-rest
invariant-loop-rest l = CutSoFar l.script.value.items l.start l.timing l.rest l.chunks.items l.entries l.bytes l.line

abbrev pub decreases-loop-rest : goal.decreases-loop-rest
decreases-loop-rest l = length l.rest
