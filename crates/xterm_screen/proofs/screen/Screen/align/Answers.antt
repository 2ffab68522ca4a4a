use Rattle.std.proofs.Common.{ap₂, ◌∙◌, ℕ}
use Rattle.sheet.specs.Grid.{aligned as rows_aligned}
use Rattle.xterm_screen.proofs.Screens.{aligned_left}
use Rattle.xterm_screen.proofs.screen.Screen.align.Goals as goal

pub invariant_of-self : goal.invariant_of-self
invariant_of-self c =
    aligned_left c.self.inside c.self.invariant c.align.new.self
    (c.align.ensures.rows ∙ ap₂ (λ (columns lines : ℕ). rows_aligned columns lines) c.self.invariant.shown_columns c.self.invariant.shown_lines)
    (c.align.ensures.columns ∙ c.self.invariant.shown_columns) (c.align.ensures.lines ∙ c.self.invariant.shown_lines)
