use Rattle.std.proofs.Common.{false}
use Rattle.xterm_screen.proofs.Screens.{lines_left}
use Rattle.xterm_screen.proofs.screen.Screen.index.Goals as goal

pub invariant_of-self : goal.invariant_of-self
invariant_of-self c =
    lines_left c.self.inside c.self.invariant c.scroll_up.new.self _ c.self.inside.column false c.scroll_up.ensures.rows c.scroll_up.ensures.columns c.scroll_up.ensures.lines
    c.self.invariant.sound.column_low c.self.invariant.sound.column_high
