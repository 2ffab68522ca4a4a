use Rattle.std.proofs.Common.{rules}
use Rattle.vt_screen.specs.Cells.{blank_cells}
use Rattle.vt_screen.proofs.cell.Row.blank.Goals as goal

pub returns : goal.returns
unfolding blank_cells
returns c = search rules
