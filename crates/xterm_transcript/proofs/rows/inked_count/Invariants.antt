use Rattle.std.proofs.Common.{◌≡◌, ◌≤◌}
use Rattle.transcripts.specs.Transcript.{without_blank_end}
use Rattle.xterm_transcript.specs.Rows.{first_rows}
use Rattle.xterm_transcript.proofs.rows.inked_count.Given as goal

-- those of the rows so far that stand before the blank ones at their end
abbrev pub invariant-loop-line : goal.invariant-loop-line
invariant-loop-line l = record {
  within : l.count ≤ l.line;
  value : first_rows l.count l.screen.picture ≡ without_blank_end (first_rows l.line l.screen.picture);
}
