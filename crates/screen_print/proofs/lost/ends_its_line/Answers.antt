use Rattle.std.proofs.Common.{◌∙◌, ap, sym}
use Rattle.screen_print.specs.FindLines.{ends_line}
use Rattle.screen_print.proofs.lost.ends_its_line.Goals as goal

pub returns-clause-ends : goal.returns-clause-ends
returns-clause-ends c = λ yes. ap ends_line (sym c.cells.ensures.text) ∙ sym c.ends_line.ensures ∙ yes
