use Rattle.std.proofs.Common.{arith, false}
use Rattle.xterm_screen.proofs.Screens.{lines_left}
use Rattle.xterm_screen.proofs.screen.Screen.insert_lines.Goals as goal

pub invariant_of-self : goal.invariant_of-self
invariant_of-self c =
    lines_left c.self.inside c.self.invariant c.scroll_down.new.self _ 1 false c.scroll_down.ensures.rows c.scroll_down.ensures.columns c.scroll_down.ensures.lines
    (omega arith) (omega (arith, c.self.invariant.sound.columns_low))
