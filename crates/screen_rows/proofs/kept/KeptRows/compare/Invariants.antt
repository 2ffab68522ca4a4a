use Rattle.std.proofs.Common.{◌≡◌, ◌+◌, ◌-◌, ℕ, ◌<◌, ◌≤◌, length, filter}
use Rattle.std.specs.List.{range_with_len}
use Rattle.vt_screen.specs.Table.{nth}
use Rattle.screen_rows.specs.KeptRows.{IsFrom}
use Rattle.screen_rows.specs.SameRows.{is_changed}
use Rattle.screen_rows.proofs.kept.KeptRows.compare.Given as goal

-- of the lines so far it is known which differ, and where their rows lay
abbrev pub invariant-loop-line : goal.invariant-loop-line
invariant-loop-line l = record {
  changed : l.lines.items ≡ filter (is_changed l.self.rows l.screen.picture.rows) (range_with_len 1 (l.line - 1));
  few : length l.lines.items + 1 ≤ l.line;
  long : length l.sources ≡ 24;
  from : (k : ℕ) → 1 ≤ k → k < l.line → IsFrom l.self l.screen k (nth 0 l.sources k);
}
