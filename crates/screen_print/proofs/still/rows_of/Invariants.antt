use Rattle.std.proofs.Common.{◌≡◌, ℕ, ◌<◌, ◌≤◌, length}
use Rattle.vt_screen.specs.Cells.{row_at}
use Rattle.screen_print.proofs.still.rows_of.Given as goal

-- the lines so far were copied
abbrev pub invariant-loop-line : goal.invariant-loop-line
invariant-loop-line l = record {
  whole : length l.rows ≡ 24;
  copied : (k : ℕ) → 1 ≤ k → k < l.line → row_at l.rows k ≡ row_at l.screen.picture.rows k;
}
