use Rattle.std.proofs.Common.{◌-◌, slice_index_or, sym, ap, ◌∙◌, arith}
use Rattle.sheet.specs.declared.rendition.Colour.TheVariants.{Default}
use Rattle.sheet.specs.Cells.{blank, cell_at}
use Rattle.xterm_escaped.proofs.Tables.{nth_is, nth_none}
use Rattle.xterm_state.proofs.cells.cell_at.Goals as goal

pub returns-then-column-eq0 : goal.returns-then-column-eq0
returns-then-column-eq0 c = c.empty.ensures ∙ sym (ap (cell_at c.args.row.now) c.if-column-eq0.true ∙ nth_none (blank Default) c.args.row.now)

pub returns-else-column-eq0 : goal.returns-else-column-eq0
returns-else-column-eq0 c =
    c.cell_behind.ensures ∙ ap (λ n. slice_index_or c.args.row.now (n - 1) (blank Default)) c.from.ensures
    ∙ sym (nth_is (blank Default) c.args.row.now c.args.column (omega arith))
