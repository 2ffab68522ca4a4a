use Rattle.std.proofs.Common.{ap, ◌∙◌, subst}
use Rattle.tape_core.specs.Devices.{Gave}
use Rattle.sheet.specs.Cells.{Cell}
use Rattle.xterm_rows.specs.RowText.{printed}
use Rattle.xterm_escaped.specs.EscapedText.{rendition_set_text}
use Rattle.xterm_state.specs.StateText.{begin_of, cell_of, column_text}
use Rattle.xterm_state.proofs.closing.put_wrapped.Goals as goal

pub returns : goal.returns
returns g c =
    let p = c.args.screen.now.picture in
    let cell = c.cell_of-cell.ensures ∙ ap (cell_of p) c.columns.ensures.value in
    let rendition = subst (λ r. Gave g.W.Write.contents c.args.writer.now c.put_rendition.new.writer (rendition_set_text r))
    (c.rendition.ensures ∙ ap (λ (x : Cell). x.rendition) cell) c.put_rendition.ensures in
    let column = subst (λ k. Gave g.W.Write.contents c.put_rendition.new.writer c.put_column.new.writer (column_text c.args.origin p k))
    (c.begin_of.ensures ∙ ap (begin_of p) c.columns-2.ensures.value) c.put_column.ensures in
    let letter = subst (λ x. Gave g.W.Write.contents c.put_column.new.writer c.put_cell.new.writer (printed x)) cell c.put_cell.ensures in
    c.gives_join.ensures.both _ _ _ _ _ letter (c.gives_join.ensures.both _ _ _ _ _ column rendition)
