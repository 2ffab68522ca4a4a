use Rattle.std.proofs.Common.{◌≡◌, ℕ, ◌<◌, ◌≤◌}
use Rattle.vt_screen.specs.Cells.{row_at}
use Rattle.vt_screen.specs.Slots.{rows_of}
use Rattle.vt_screen.proofs.screen.packed.put_rows.Given as goal

-- the rows before this line's are put back
abbrev pub invariant-loop-line : goal.invariant-loop-line
invariant-loop-line l = ((k : ℕ) → 1 ≤ k → k < l.line → row_at (rows_of l.grid) k ≡ row_at l.packed.rows k)
