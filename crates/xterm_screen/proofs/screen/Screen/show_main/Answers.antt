use Rattle.xterm_screen.proofs.Screens.{main_left}
use Rattle.xterm_screen.proofs.screen.Screen.show_main.Goals as goal

pub invariant_of-self : goal.invariant_of-self
invariant_of-self c =
    main_left c.self.inside c.self.invariant c.swap.new.x c.swap.new.y c.touch_all.new.self c.swap.ensures.x_after c.swap.ensures.y_after
    c.touch_all.ensures.rows c.touch_all.ensures.columns c.touch_all.ensures.lines
