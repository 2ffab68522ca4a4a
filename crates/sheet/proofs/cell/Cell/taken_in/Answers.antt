use Rattle.std.proofs.Common.{◌≡◌, ap, arith, sym, ◌∙◌}
use Rattle.std.proofs.lemmas.Nat.{le_or_r}
use Rattle.sheet.specs.Cells.{Cell}
use Rattle.sheet.proofs.Numbers.{small_narrow}
use Rattle.sheet.proofs.cell.Cell.taken_in.Goals as goal

pub returns-clause-kind : goal.returns-clause-kind
returns-clause-kind c = λ small.
    ap (λ (cell : Cell). cell.kind) (sym c.self.view_is)
    ∙ small_narrow c.self.inside.text c.self.inside.style (omega (arith, small, le_or_r c.args.style c.self.inside.style))
