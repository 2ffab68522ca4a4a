use Rattle.std.proofs.Common.{◌≡◌, ℕ, ◌+◌, ◌-◌, ◌<◌, ◌≤◌, List, length}
use Rattle.sheet.specs.Cells.{Cell}
use Rattle.sheet.specs.Grid.{row_at}
use Rattle.standings.specs.Rows.{row_below}
use Rattle.standings.specs.Spans.{Stays}
use Rattle.xterm_screen.specs.Picture.{Tells}
use Rattle.xterm_print.specs.FindRows.{row_read, rows_read}
use Rattle.xterm_print.proofs.find_rows.read_lines.Given as goal

-- those so far are as they are read now, and the others are as they were
abbrev pub invariant-loop-line : goal.invariant-loop-line
invariant-loop-line l = record {
  low : 1 ≤ l.line;
  end : l.line ≤ l.fn.screen.picture.lines + 1;
  count : length l.rows.items ≡ l.fn.screen.picture.lines;
  others : Stays l.span l.fn.rows.items l.rows.items;
  high : l.span.to + 1 ≤ l.line;
  read : (before : List (List Cell)) → Tells before l.fn.screen → length before ≡ l.fn.screen.picture.lines → l.fn.rows.items ≡ rows_read l.fn.screen.picture.lines before
      → (k : ℕ) → 1 ≤ k → k < l.line → row_below l.rows.items (k - 1) ≡ row_read (row_at l.fn.screen.picture.rows k) (row_at l.fn.screen.picture.rows (k + 1));
}

abbrev pub decreases-loop-line : goal.decreases-loop-line
decreases-loop-line l = l.fn.screen.picture.lines + 1 - l.line
