use Rattle.std.proofs.Common.{◌∙◌, ap, length}
use Rattle.vt_screen.specs.declared.cell.Row.{Row}
use Rattle.vt_screen.proofs.Tables.{length-table}
use Rattle.vt_screen.proofs.grid.Grid.erase_part.Goals as goal

pub set_row-requires-clause-whole : goal.set_row-requires-clause-whole
set_row-requires-clause-whole c = ap (λ (r : Row). length r.cells) c.erase_part.ensures ∙ length-table 132 _
