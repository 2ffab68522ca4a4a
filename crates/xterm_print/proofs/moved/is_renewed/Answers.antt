use Rattle.std.proofs.Common.{List, ap, ap₂, arith, not, sym, ◌∙◌}
use Rattle.sheet.specs.Cells.{Cell}
use Rattle.xterm_print.specs.ChangeLines.{same_row}
use Rattle.xterm_print.proofs.KeptLemmas.{row_read}
use Rattle.xterm_print.proofs.moved.is_renewed.Goals as goal

pub returns : goal.returns
returns c =
    let line = c.args.line in
    let row = row_read c.args.rows.now line c.index-rows-line.result c.requires.low (omega (arith, c.requires.rows, c.requires.high)) in
    ap not (c.is_same.ensures ∙ ap₂ (λ (one other : List Cell). same_row one other) (c.index-rows-line.is ∙ sym row) c.row.ensures.value)
