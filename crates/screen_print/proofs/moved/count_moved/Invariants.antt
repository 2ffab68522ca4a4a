use Rattle.std.proofs.Common.{◌≡◌, ℕ, ◌+◌, ◌<◌, ◌≤◌}
use Rattle.vt_screen.specs.Cells.{row_at}
use Rattle.screen_print.proofs.moved.count_moved.Given as goal

-- the rows so far stood so much further down
abbrev pub invariant-loop-line : goal.invariant-loop-line
invariant-loop-line l = (line : ℕ) → 1 ≤ line → line < l.line → row_at l.later.rows line ≡ row_at l.earlier.rows (line + l.far)
