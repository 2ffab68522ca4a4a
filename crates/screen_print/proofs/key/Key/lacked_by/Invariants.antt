use Rattle.std.proofs.Common.{ℕ, ◌<◌, ◌≤◌}
use Rattle.vt_screen.specs.Cells.{row_at}
use Rattle.screen_print.specs.Skim.{RowLacks}
use Rattle.screen_print.proofs.key.Key.lacked_by.Given as goal

-- the rows so far lack the key
abbrev pub invariant-loop-line : goal.invariant-loop-line
invariant-loop-line l = (k : ℕ) → 1 ≤ k → k < l.line → RowLacks l.self.chars.now l.screen.picture.wide (row_at l.screen.picture.rows k)
