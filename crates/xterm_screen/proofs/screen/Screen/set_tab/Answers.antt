use Rattle.std.proofs.Common.{true, ap, ◌∙◌}
use Rattle.xterm_screen.specs.Picture.{ScreenState}
use Rattle.xterm_screen.specs.Tabs.{tab_made}
use Rattle.xterm_screen.specs.View.{picture_of}
use Rattle.xterm_screen.proofs.Screens.{tab_written}
use Rattle.xterm_screen.proofs.screen.Screen.set_tab.Goals as goal

pub returns-clause-picture : goal.returns-clause-picture
returns-clause-picture c = tab_written (picture_of c.self.inside) true c.self.invariant.sound ∙ ap (λ (s : ScreenState). tab_made true s.picture) c.self.view_is
