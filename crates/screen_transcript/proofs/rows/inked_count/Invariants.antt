use Rattle.std.proofs.Common.{◌≡◌, ◌≤◌, take}
use Rattle.screen_transcript.specs.Rows.{all_rows, inked_rows}
use Rattle.transcripts.specs.Transcript.{without_blank_end}
use Rattle.screen_transcript.proofs.rows.inked_count.Given as goal

-- the rows behind these are blank
abbrev pub invariant-loop-count : goal.invariant-loop-count
invariant-loop-count l = record {
  within : l.count ≤ 24;
  value : without_blank_end (take l.count (all_rows l.screen.picture)) ≡ inked_rows l.screen.picture;
}

abbrev pub decreases-loop-count : goal.decreases-loop-count
decreases-loop-count l = l.count
