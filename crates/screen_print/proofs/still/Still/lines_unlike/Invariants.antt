use Rattle.std.proofs.Common.{◌≡◌, ◌+◌, ◌-◌, ◌≤◌, length, filter}
use Rattle.std.specs.List.{range_with_len}
use Rattle.screen_rows.specs.SameRows.{is_changed}
use Rattle.screen_print.proofs.still.Still.lines_unlike.Given as goal

-- those so far differ
abbrev pub invariant-loop-line : goal.invariant-loop-line
invariant-loop-line l = record {
  changed : l.unlike.items ≡ filter (is_changed l.self.rows l.screen.picture.rows) (range_with_len 1 (l.line - 1));
  few : length l.unlike.items + 1 ≤ l.line;
}
