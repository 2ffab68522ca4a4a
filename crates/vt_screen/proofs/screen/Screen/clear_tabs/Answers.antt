use Rattle.std.proofs.Common.{ap}
use Rattle.vt_screen.specs.Slots.{ScreenState}
use Rattle.vt_screen.specs.Table.{table}
use Rattle.vt_screen.specs.Tabs.{tabs_cleared}
use Rattle.vt_screen.proofs.screen.Screen.clear_tabs.Goals as goal

pub returns-clause-picture : goal.returns-clause-picture
unfolding table
returns-clause-picture c = ap (λ (s : ScreenState). tabs_cleared s.picture) c.self.view_is
