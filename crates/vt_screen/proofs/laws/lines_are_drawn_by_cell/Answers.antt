use Rattle.vt_screen.proofs.Drawing.{placed_at_left, line_begun, size_drawn, cell_drawn}
use Rattle.vt_screen.proofs.laws.lines_are_drawn_by_cell.Goals as goal

pub returns-clause-left : goal.returns-clause-left
returns-clause-left c = placed_at_left

pub returns-clause-single : goal.returns-clause-single
returns-clause-single c = line_begun

pub returns-clause-size : goal.returns-clause-size
returns-clause-size c = size_drawn

pub returns-clause-cell : goal.returns-clause-cell
returns-clause-cell c = cell_drawn
