use Rattle.std.proofs.Common.{◌∙◌, ap, arith}
use Rattle.sheet.specs.Cells.{is_covered}
use Rattle.sheet.proofs.Rows.{cell_read, outside_open}
use Rattle.sheet.proofs.row.covered_at.Goals as goal

pub returns-then-column-cells-clause-value : goal.returns-then-column-cells-clause-value
returns-then-column-cells-clause-value c = c.is_covered.ensures ∙ ap is_covered (c.index-cells-column.is ∙ cell_read c.args.cells.now _ c.args.column (omega arith) (omega arith))

pub returns-else-column-gt0-clause-value : goal.returns-else-column-gt0-clause-value
returns-else-column-gt0-clause-value c = outside_open c.args.cells.now c.args.column (λ low. omega arith)
