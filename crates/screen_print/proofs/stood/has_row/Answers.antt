use Rattle.std.proofs.Common.{◌∙◌, ap, sym}
use Rattle.screen_print.specs.FindLines.{ends_line}
use Rattle.screen_print.proofs.stood.has_row.Goals as goal

pub returns-clause-same : goal.returns-clause-same
returns-clause-same c = λ _.
    sym c.row.ensures.value ∙ (c.same_rows_are_equal.ensures c.row.result.now c.row-2.result.now).0 (sym c.same_row.ensures ∙ c.if-not-same_row.false) ∙ c.row-2.ensures.value

pub returns-clause-ends : goal.returns-clause-ends
returns-clause-ends c = λ yes. ap ends_line (sym c.cells.ensures.text) ∙ sym c.ends_line.ensures ∙ yes
