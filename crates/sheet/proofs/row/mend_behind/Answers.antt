use Rattle.std.proofs.Common.{◌∙◌, sym, arith}
use Rattle.sheet.proofs.Rows.{none_blanked, right_blanked}
use Rattle.sheet.proofs.row.mend_behind.Goals as goal

pub returns-then-covered_at : goal.returns-then-covered_at
returns-then-covered_at c =
    right_blanked c.args.border c.args.paper c.args.cells.now c.blank.result c.blank.ensures c.requires.low (omega (arith, c.covered_at.ensures.high c.if-covered_at.true))
    c.requires.narrow (sym c.covered_at.ensures.value ∙ c.if-covered_at.true)

pub returns-else-covered_at : goal.returns-else-covered_at
returns-else-covered_at c =
    none_blanked c.args.border c.args.paper c.args.cells.now (c.requires.narrow ∙ sym c.if-covered_at.false ∙ c.covered_at.ensures.value)
