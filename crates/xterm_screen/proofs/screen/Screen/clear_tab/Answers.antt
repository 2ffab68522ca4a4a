use Rattle.std.proofs.Common.{false, ap, ◌∙◌}
use Rattle.xterm_screen.specs.Picture.{ScreenState}
use Rattle.xterm_screen.specs.Tabs.{tab_made}
use Rattle.xterm_screen.specs.View.{picture_of}
use Rattle.xterm_screen.proofs.Screens.{tab_written}
use Rattle.xterm_screen.proofs.screen.Screen.clear_tab.Goals as goal

pub returns-clause-picture : goal.returns-clause-picture
returns-clause-picture c = tab_written (picture_of c.self.inside) false c.self.invariant.sound ∙ ap (λ (s : ScreenState). tab_made false s.picture) c.self.view_is
