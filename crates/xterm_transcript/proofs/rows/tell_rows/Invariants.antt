use Rattle.transcripts.specs.Told.{Tells}
use Rattle.xterm_transcript.specs.Rows.{first_rows}
use Rattle.xterm_transcript.proofs.rows.tell_rows.Given as goal

-- the rows so far were told
abbrev pub invariant-loop-line : goal.invariant-loop-line
invariant-loop-line g l = Tells g.W.Write.contents l.fn.writer l.fn.rows l.writer l.rows (first_rows l.line l.screen.picture)
