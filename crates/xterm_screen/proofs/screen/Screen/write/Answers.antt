use Rattle.xterm_screen.proofs.Screens.{row_left}
use Rattle.xterm_screen.proofs.screen.Screen.write.Goals as goal

pub invariant_of-self : goal.invariant_of-self
invariant_of-self c = row_left c.self.inside c.self.invariant c.put_wide.new.self _ c.self.inside.wrap c.put_wide.ensures.rows c.put_wide.ensures.columns c.put_wide.ensures.lines

pub invariant_of-self-else-wide : goal.invariant_of-self-else-wide
invariant_of-self-else-wide c =
    row_left c.self.inside c.self.invariant c.put_narrow.new.self _ c.self.inside.wrap c.put_narrow.ensures.rows c.put_narrow.ensures.columns c.put_narrow.ensures.lines
