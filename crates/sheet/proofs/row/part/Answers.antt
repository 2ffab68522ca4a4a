use Rattle.std.proofs.Common.{◌∙◌, sym, arith}
use Rattle.sheet.proofs.Rows.{both_blanked, none_parted, past_the_first}
use Rattle.sheet.proofs.row.part.Goals as goal

pub overflow_sub-cells : goal.overflow_sub-cells
overflow_sub-cells c = past_the_first c.args.cells.now c.args.border c.requires.whole c.requires.low (sym c.covered_at.ensures.value ∙ c.if-covered_at.true)

pub returns-then-covered_at : goal.returns-then-covered_at
returns-then-covered_at c =
    let cut = sym c.covered_at.ensures.value ∙ c.if-covered_at.true in
    both_blanked c.args.border c.args.paper c.args.cells.now _ _ c.blank.ensures c.blank-then-covered_at.ensures
    (past_the_first c.args.cells.now c.args.border c.requires.whole c.requires.low cut) (omega arith) cut

pub returns-else-covered_at : goal.returns-else-covered_at
returns-else-covered_at c = none_parted c.args.border c.args.paper c.args.cells.now (sym c.covered_at.ensures.value ∙ c.if-covered_at.false)
