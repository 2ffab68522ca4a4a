use Rattle.std.proofs.Common.{length}
use Rattle.transcripts.proofs.Telling.{Sofar}
use Rattle.transcripts.proofs.print.tell_chunk.Given as goal

-- the rows that leave at the bytes so far were told
abbrev pub invariant-loop-rest : goal.invariant-loop-rest
invariant-loop-rest g l =
    Sofar g.T.Transcribes.played g.T.Transcribes.leaving g.W.Write.contents l.fn.terminal l.terminal l.fn.writer l.writer l.fn.rows l.rows l.bytes l.rest

abbrev pub decreases-loop-rest : goal.decreases-loop-rest
decreases-loop-rest g l = length l.rest
