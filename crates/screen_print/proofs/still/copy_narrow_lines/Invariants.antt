use Rattle.std.proofs.Common.{◌≡◌, ℕ, ◌≤◌, drop, false, length}
use Rattle.vt_screen.specs.Cells.{row_at}
use Rattle.vt_screen.specs.Picture.{SoundRow}
use Rattle.screen_print.proofs.StillLemmas.{IsIn}
use Rattle.screen_print.proofs.still.copy_narrow_lines.Given as goal

-- each row is the screen's, or stands at a line that comes
abbrev pub invariant-loop-line : goal.invariant-loop-line
invariant-loop-line l = record {
  whole : length l.rows ≡ 24;
  sound : (k : ℕ) → 1 ≤ k → k ≤ 24 → SoundRow false (row_at l.rows k);
  copied : (k : ℕ) → 1 ≤ k → k ≤ 24 → IsIn (drop l.line-index l.lines) k (row_at l.rows k ≡ row_at l.screen.picture.rows k);
}
