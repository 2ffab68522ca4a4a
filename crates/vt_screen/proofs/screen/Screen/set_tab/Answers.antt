use Rattle.std.proofs.Common.{true, ◌∙◌, ap}
use Rattle.vt_screen.specs.Slots.{ScreenState}
use Rattle.vt_screen.specs.Tabs.{tab_made}
use Rattle.vt_screen.specs.View.{picture_of}
use Rattle.vt_screen.proofs.Answers.{tab_written}
use Rattle.vt_screen.proofs.screen.Screen.set_tab.Goals as goal

pub returns-clause-picture : goal.returns-clause-picture
returns-clause-picture c = tab_written (picture_of c.self.inside) true c.self.invariant ∙ ap (λ (s : ScreenState). tab_made true s.picture) c.self.view_is
