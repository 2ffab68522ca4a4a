use Rattle.tape_core.specs.Due.{first}
use Rattle.transcripts.specs.Told.{Tells}
use Rattle.transcripts.specs.Transcript.{left_between}
use Rattle.transcripts.proofs.print.tell_chunks.Given as goal

-- the rows that leave at the chunks so far were told
abbrev pub invariant-loop-index : goal.invariant-loop-index
invariant-loop-index g l = record {
  played : (profile : g.row.T-Profile.Denot) → g.T.Transcribes.played profile l.fn.terminal (first l.recording.chunks l.start)
      → g.T.Transcribes.played profile l.terminal (first l.recording.chunks l.index);
  tells : (profile : g.row.T-Profile.Denot) → g.T.Transcribes.played profile l.fn.terminal (first l.recording.chunks l.start)
      → Tells g.W.Write.contents l.fn.writer l.fn.rows l.writer l.rows
      (left_between g.T.Transcribes.leaving profile l.recording l.start l.index);
}
