use Rattle.std.proofs.Common.{◌≡◌, ℕ, ◌-◌, ◌<◌, ◌≤◌, length, take}
use Rattle.sheet.specs.Grid.{row_at}
use Rattle.xterm_page.proofs.kept.kept_rows.Given as goal

-- the rows so far were copied
abbrev pub invariant-loop-line : goal.invariant-loop-line
invariant-loop-line l = record {
  told : l.rows.items ≡ take (l.line - 1) l.fn.screen.picture.rows;
  wide : (k : ℕ) → 1 ≤ k → k < l.line → length (row_at l.fn.screen.picture.rows k) ≡ l.fn.screen.picture.columns;
}
