use Rattle.xterm_screen.proofs.Screens.{row_left}
use Rattle.xterm_screen.proofs.screen.Screen.add_mark.Goals as goal

pub invariant_of-self : goal.invariant_of-self
invariant_of-self c = row_left c.self.inside c.self.invariant c.add_mark.new.self _ c.self.inside.wrap c.add_mark.ensures.rows c.add_mark.ensures.columns c.add_mark.ensures.lines
