use Rattle.std.proofs.Common.{false, ◌∙◌, ap, sym}
use Rattle.vt_screen.specs.Slots.{ScreenState}
use Rattle.vt_screen.specs.Tabs.{stop_at}
use Rattle.vt_screen.proofs.Tables.{nth_is}
use Rattle.vt_screen.proofs.screen.Screen.tab.Goals as goal

pub returns : goal.returns
returns c = sym (nth_is false c.self.inside.tabs c.args.col) ∙ ap (λ (s : ScreenState). stop_at s.picture.tabs c.args.col) c.self.view_is
