use Rattle.std.proofs.Common.{◌≡◌, ℕ, ◌<◌, ◌≤◌}
use Rattle.vt_screen.specs.Cells.{blank, cell_at}
use Rattle.vt_screen.proofs.screen.packed.used.Given as goal

-- what lies between is blank
abbrev pub invariant-loop-column : goal.invariant-loop-column
invariant-loop-column l = record {
  within : l.used ≤ l.column;
  blank : (column : ℕ) → l.used < column → column ≤ l.column → cell_at l.row column ≡ blank;
}
