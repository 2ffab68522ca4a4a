use Rattle.std.proofs.Common.{◌≡◌, ℕ, ◌<◌, ◌≤◌, false}
use Rattle.vt_screen.specs.Cells.{row_at}
use Rattle.screen_rows.specs.SameRows.{same_row}
use Rattle.screen_page.proofs.numbered.NumberedRows.line_from.Given as goal

-- none of the lines before this one was the row
abbrev pub invariant-loop-line : goal.invariant-loop-line
invariant-loop-line l = (k : ℕ) → 1 ≤ k → k ≤ 24 → k < l.line → same_row (row_at l.self.rows k) l.row ≡ false
