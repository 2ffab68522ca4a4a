use Rattle.xterm_screen.proofs.Screens.{lines_left}
use Rattle.xterm_screen.proofs.screen.Screen.erase_display.Goals as goal

pub invariant_of-self : goal.invariant_of-self
invariant_of-self c =
    lines_left c.self.inside c.self.invariant c.erase_lines.new.self _ c.self.inside.column c.self.inside.wrap c.erase_lines.ensures.rows c.erase_lines.ensures.columns
    c.erase_lines.ensures.lines c.self.invariant.sound.column_low c.self.invariant.sound.column_high
