use Rattle.xterm_term.specs.Seen.{Shows}
use Rattle.xterm_term.specs.Term.{Term}
use Rattle.transcripts.specs.Told.{Tells}
use Rattle.xterm_transcript.specs.Leaving.{repeated_rows}
use Rattle.xterm_transcript.specs.Playing.{character_put_times}
use Rattle.xterm_transcript.proofs.rows.tell_repeated.Given as goal

-- the character was put so many times, and the rows that left then were told
abbrev pub invariant-loop-step : goal.invariant-loop-step
invariant-loop-step g l = record {
  shows : (x : Term) → Shows l.fn.terminal x → Shows l.terminal (character_put_times l.step l.character x);
  tells : (x : Term) → Shows l.fn.terminal x → Tells g.W.Write.contents l.fn.writer l.fn.rows l.writer l.rows (repeated_rows l.step l.character x.console);
}
