use Rattle.std.proofs.Common.{◌-◌, false, sym, ap, ◌∙◌, arith}
use Rattle.std.proofs.lemmas.List.{get_or_default}
use Rattle.xterm_screen.specs.Picture.{ScreenState}
use Rattle.xterm_screen.specs.Tabs.{stop_at}
use Rattle.xterm_screen.proofs.Tables.{nth_is}
use Rattle.xterm_screen.proofs.screen.Screen.tab.Goals as goal

pub returns : goal.returns
returns c =
    let tabs = c.self.inside.tabs.items in
    c.index.ensures
    ∙ get_or_default tabs (c.args.column - 1) c.index.result.now false
    (omega (arith, c.self.invariant.sound.tabs, c.requires.low, c.requires.high, ap (λ (s : ScreenState). s.picture.columns) c.self.view_is))
    ∙ sym (nth_is false tabs c.args.column c.requires.low)
    ∙ ap (λ (s : ScreenState). stop_at s.picture.tabs c.args.column) c.self.view_is
