use Rattle.std.proofs.Common.{◌≡◌, ℕ, ◌<◌, ◌≤◌, length}
use Rattle.sheet.specs.Grid.{row_at}
use Rattle.xterm_print.specs.Kept.{Follows}
use Rattle.xterm_print.proofs.moved.catch_up_lines.Given as goal

-- those so far follow
abbrev pub invariant-loop-line : goal.invariant-loop-line
invariant-loop-line l = record {
  whole : length l.rows ≡ length l.fn.rows;
  before : (k : ℕ) → 1 ≤ k → k < l.fn.from → row_at l.rows k ≡ row_at l.fn.rows k;
  caught : (k : ℕ) → l.fn.from ≤ k → k < l.line → length (row_at l.fn.rows k) ≡ l.fn.screen.picture.columns
      → Follows l.fn.screen.picture.columns (row_at l.rows k) (row_at l.fn.screen.picture.rows k);
  behind : (k : ℕ) → l.line ≤ k → row_at l.rows k ≡ row_at l.fn.rows k;
}
