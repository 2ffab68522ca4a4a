use Rattle.std.proofs.Common.{false}
use Rattle.xterm_screen.proofs.Screens.{row_left}
use Rattle.xterm_screen.proofs.screen.Screen.delete_cells.Goals as goal

pub invariant_of-self : goal.invariant_of-self
invariant_of-self c = row_left c.self.inside c.self.invariant c.delete.new.self _ false c.delete.ensures.rows c.delete.ensures.columns c.delete.ensures.lines
