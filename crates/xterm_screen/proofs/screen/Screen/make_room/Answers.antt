use Rattle.xterm_screen.proofs.Screens.{row_left}
use Rattle.xterm_screen.proofs.screen.Screen.make_room.Goals as goal

pub invariant_of-self : goal.invariant_of-self
invariant_of-self c = row_left c.self.inside c.self.invariant c.insert.new.self _ c.self.inside.wrap c.insert.ensures.rows c.insert.ensures.columns c.insert.ensures.lines
