use Rattle.std.proofs.Common.{ap, ◌∙◌}
use Rattle.sheet.specs.Grid.{Grid}
use Rattle.sheet.proofs.Came.{all_told}
use Rattle.xterm_screen.proofs.screen.Screen.unpack.Goals as goal

pub returns-clause-told : goal.returns-clause-told
returns-clause-told c = λ before.
    all_told c.packed.inside.lines c.unpack.new.self.rows before _ (ap (λ (g : Grid). g.origins) c.unpack.ensures ∙ c.packed.invariant.shown_origins)
