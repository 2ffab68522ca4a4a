use Rattle.std.proofs.Common.{length}
use Rattle.xterm_transcript.proofs.PassLemmas.{Passed}
use Rattle.xterm_transcript.proofs.transcriber.Transcriber.pass_over.Given as goal

-- the bytes so far were played
abbrev pub invariant-loop-rest : goal.invariant-loop-rest
invariant-loop-rest l = Passed l.initial.self l.self l.bytes l.rest

abbrev pub decreases-loop-rest : goal.decreases-loop-rest
decreases-loop-rest l = length l.rest
