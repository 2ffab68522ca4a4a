use Rattle.std.proofs.Common.{◌≡◌, ℕ, ◌≤◌, false}
use Rattle.sheet.specs.Grid.{row_at}
use Rattle.xterm_page.specs.Same.{same_row}
use Rattle.xterm_page.proofs.kept.line_of.Given as goal

-- none of the lines before this one was the row
abbrev pub invariant-loop-at : goal.invariant-loop-at
invariant-loop-at l = (k : ℕ) → 1 ≤ k → k ≤ l.at → same_row (row_at l.rows k) l.cells ≡ false
