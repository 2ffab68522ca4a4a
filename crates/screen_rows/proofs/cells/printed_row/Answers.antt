use Rattle.std.proofs.Common.{◌≡◌, ◌++◌, [], ◌∷◌, ◌∙◌, ap, lit<, refl}
use Rattle.vt_screen.specs.Picture.{margin_of}
use Rattle.screen_rows.specs.RowText.{printed_line, trimmed}
use Rattle.screen_rows.proofs.TextLemmas.{printed_line_is}
use Rattle.screen_rows.proofs.cells.printed_row.Goals as goal

pub returns : goal.returns
returns c =
    let row = c.args.row.now in
    let left = c.trimmed-cell-items.ensures ∙ ap trimmed c.cells_to_margin-cells.ensures.cells in
    let text : c.loop-cell.text.bytes ++ 10 ∷ [] ≡ printed_line c.args.wide row =
    printed_line_is c.args.wide row (margin_of c.args.wide row.size) c.loop-cell.cell-index c.trimmed-cell-items.result.now c.loop-cell.text.bytes refl left c.loop-cell-test.false c.loop-cell.invariant.printed in
    c.push-2.ensures.ascii (lit< tt) ∙ text
