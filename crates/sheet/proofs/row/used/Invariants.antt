use Rattle.std.proofs.Common.{◌≡◌, ℕ, ◌<◌, ◌≤◌}
use Rattle.sheet.specs.declared.rendition.Colour.TheVariants.{Default}
use Rattle.sheet.specs.Cells.{blank, cell_at}
use Rattle.sheet.proofs.row.used.Given as goal

-- behind the last cell so far that isn't blank all are
abbrev pub invariant-loop-i : goal.invariant-loop-i
invariant-loop-i l = record {
  within : l.used ≤ l.i;
  tail : (column : ℕ) → l.used < column → column ≤ l.i → cell_at l.cells column ≡ blank Default;
}
