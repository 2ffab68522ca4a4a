use Rattle.tape_core.specs.Due.{first}
use Rattle.transcripts.proofs.print.terminal_at.Given as goal

-- the chunks so far were played
abbrev pub invariant-loop-index : goal.invariant-loop-index
invariant-loop-index g l = g.T.Transcribes.played l.fn.profile l.terminal (first l.recording.chunks l.index)
