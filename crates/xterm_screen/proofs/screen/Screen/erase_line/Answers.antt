use Rattle.std.proofs.Common.{false}
use Rattle.xterm_screen.proofs.Screens.{row_left}
use Rattle.xterm_screen.proofs.screen.Screen.erase_line.Goals as goal

pub invariant_of-self : goal.invariant_of-self
invariant_of-self c = row_left c.self.inside c.self.invariant c.erase.new.self _ false c.erase.ensures.rows c.erase.ensures.columns c.erase.ensures.lines
