use Rattle.std.proofs.Common.{take}
use Rattle.transcripts.specs.Told.{Tells}
use Rattle.screen_transcript.specs.Rows.{all_rows}
use Rattle.screen_transcript.proofs.rows.tell_rows.Given as goal

-- the rows so far were told
abbrev pub invariant-loop-line : goal.invariant-loop-line
invariant-loop-line g l = Tells g.W.Write.contents l.fn.writer l.fn.rows l.writer l.rows (take l.line (all_rows l.screen.picture))
