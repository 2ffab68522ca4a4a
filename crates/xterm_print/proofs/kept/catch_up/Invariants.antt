use Rattle.std.proofs.Common.{◌≡◌, ℕ, ◌+◌, ◌-◌, ◌<◌, ◌≤◌, List, filter, length}
use Rattle.std.specs.List.{range_with_len}
use Rattle.sheet.specs.Cells.{Cell}
use Rattle.sheet.specs.Grid.{row_at}
use Rattle.xterm_screen.specs.Picture.{Tells}
use Rattle.xterm_print.specs.ChangeLines.{is_changed}
use Rattle.xterm_print.specs.Kept.{AreApart, FollowAll, Follows}
use Rattle.xterm_print.proofs.kept.catch_up.Given as goal

-- those so far differed and follow now, and the others are as they were
abbrev pub invariant-loop-line : goal.invariant-loop-line
invariant-loop-line l = record {
  low : 1 ≤ l.line;
  high : l.line ≤ l.fn.screen.picture.lines + 1;
  whole : length l.rows ≡ l.fn.screen.picture.lines;
  known : AreApart l.apart l.rows;
  changed : (before : List (List Cell)) → Tells before l.fn.screen → FollowAll l.fn.screen.picture.lines l.fn.screen.picture.columns l.fn.rows before
      → l.changed.items ≡ filter (is_changed before l.fn.screen.picture.rows) (range_with_len 1 (l.line - 1));
  few : length l.changed.items + 1 ≤ l.line;
  later : (k : ℕ) → 1 ≤ k → l.line ≤ k → row_at l.rows k ≡ row_at l.fn.rows k;
  caught : (before : List (List Cell)) → Tells before l.fn.screen → FollowAll l.fn.screen.picture.lines l.fn.screen.picture.columns l.fn.rows before
      → (k : ℕ) → 1 ≤ k → k < l.line → Follows l.fn.screen.picture.columns (row_at l.rows k) (row_at l.fn.screen.picture.rows k);
}

abbrev pub decreases-loop-line : goal.decreases-loop-line
decreases-loop-line l = l.fn.screen.picture.lines + 1 - l.line
