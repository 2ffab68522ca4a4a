use Rattle.std.proofs.Common.{◌∙◌, sym}
use Rattle.screen_print.proofs.moved.is_same.Goals as goal

pub returns : goal.returns
returns c = λ yes.
    sym c.row.ensures.value ∙ (c.same_rows_are_equal.ensures c.row.result.now c.row-2.result.now).0 (sym c.same_row.ensures ∙ yes) ∙ c.row-2.ensures.value
