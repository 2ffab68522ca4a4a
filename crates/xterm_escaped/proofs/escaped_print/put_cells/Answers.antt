use Rattle.std.proofs.Common.{◌++◌, take, ap, ap₂, sym, ◌∙◌, subst}
use Rattle.sheet.specs.Cells.{Cell}
use Rattle.tape_core.specs.Devices.{Gave}
use Rattle.xterm_escaped.specs.EscapedText.{cell_text, cells_text}
use Rattle.xterm_escaped.proofs.EscapedLemmas.{cells_text_more, rendition_after_more}
use Rattle.xterm_escaped.proofs.escaped_print.put_cells.Goals as goal

pub loop-cell-preserved : goal.loop-cell-preserved
loop-cell-preserved g c =
    let cells = c.args.cells.now in
    let first = c.args.first in
    let n = c.loop-cell.cell-index in
    let item = c.cell-item.result in
    record {
      gave =
          subst (Gave g.W.Write.contents c.args.writer.now c.put_drawn.new.writer)
          (ap₂ (λ r x. cells_text first (take n cells) ++ cell_text r x) c.loop-cell.invariant.last c.cell-item.is
          ∙ sym (cells_text_more first cells n item c.loop-cell-test.true))
          (c.gives_join.ensures.both _ _ _ _ _ c.put_drawn.ensures c.loop-cell.invariant.gave);
      last = c.rendition-last.ensures ∙ ap (λ (x : Cell). x.rendition) c.cell-item.is ∙ sym (rendition_after_more first cells n item c.loop-cell-test.true);
    }
