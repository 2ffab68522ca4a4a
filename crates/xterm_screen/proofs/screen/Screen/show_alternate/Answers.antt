use Rattle.std.proofs.Common.{◌∙◌}
use Rattle.xterm_screen.proofs.Screens.{alternate_left}
use Rattle.xterm_screen.proofs.screen.Screen.show_alternate.Goals as goal

pub invariant_of-self : goal.invariant_of-self
invariant_of-self c =
    alternate_left c.self.inside c.self.invariant c.swap.new.x c.swap.new.y c.touch_all.new.self c.args.paper c.swap.ensures.x_after c.swap.ensures.y_after
    (c.touch_all.ensures.rows ∙ c.clear.ensures.rows) (c.touch_all.ensures.columns ∙ c.clear.ensures.columns) (c.touch_all.ensures.lines ∙ c.clear.ensures.lines)
