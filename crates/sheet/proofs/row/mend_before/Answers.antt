use Rattle.std.proofs.Common.{◌∙◌, sym, arith}
use Rattle.sheet.proofs.Rows.{left_blanked, none_blanked}
use Rattle.sheet.proofs.row.mend_before.Goals as goal

pub returns-then-wide_at : goal.returns-then-wide_at
returns-then-wide_at c =
    left_blanked c.args.border c.args.paper c.args.cells.now c.blank.result c.blank.ensures (omega (arith, c.wide_at.ensures.low c.if-wide_at.true)) (omega (arith, c.wide_at.ensures.high c.if-wide_at.true))
    (sym c.wide_at.ensures.value ∙ c.if-wide_at.true) c.requires.open

pub returns-else-wide_at : goal.returns-else-wide_at
returns-else-wide_at c =
    none_blanked c.args.border c.args.paper c.args.cells.now (sym c.wide_at.ensures.value ∙ c.if-wide_at.false ∙ sym c.requires.open)
