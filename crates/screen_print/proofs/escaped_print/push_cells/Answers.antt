use Rattle.std.proofs.Common.{◌++◌, take, get_or, ap, ap₂, sym, ◌∙◌, append_assoc, arith}
use Rattle.screen_print.specs.EscapedText.{cell_text, cells_text, pen_of, pen_after}
use Rattle.screen_print.proofs.EscapedLemmas.{cells_text_more, pen_after_more}
use Rattle.screen_print.proofs.escaped_print.push_cells.Goals as goal

pub loop-cell-preserved : goal.loop-cell-preserved
loop-cell-preserved c =
    let before = c.args.text.now.items in
    let pen = c.args.pen.now in
    let cells = c.args.cells.now in
    let n = c.loop-cell.cell-index in
    let item = c.cell-item.result in
    let here = cell_text (pen_after pen (take n cells)) (get_or cells n item) in
    record {
      text =
          c.push_cell.ensures.text
          ∙ ap₂ (λ t u. t ++ u) c.loop-cell.invariant.text (ap₂ cell_text c.loop-cell.invariant.pen c.cell-item.is)
          ∙ append_assoc before (cells_text pen (take n cells)) here
          ∙ ap (λ t. before ++ t) (sym (cells_text_more pen cells n item c.loop-cell-test.true));
      pen = c.push_cell.ensures.pen ∙ ap pen_of c.cell-item.is ∙ sym (pen_after_more pen cells n item c.loop-cell-test.true);
      short = omega (arith, c.push_cell.ensures.short, c.loop-cell.invariant.short);
    }
