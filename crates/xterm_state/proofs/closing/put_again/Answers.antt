use Rattle.std.proofs.Common.{Bool, ap, ap₂, ◌∙◌, subst}
use Rattle.tape_core.specs.Devices.{Gave}
use Rattle.sheet.specs.Cells.{is_wide}
use Rattle.xterm_rows.specs.RowText.{printed}
use Rattle.xterm_screen.specs.Picture.{Picture}
use Rattle.xterm_term.specs.declared.modes.Modes.{Modes}
use Rattle.xterm_escaped.specs.EscapedText.{text_where}
use Rattle.xterm_state.specs.StateText.{begin_of, cell_of, column_text, taken_out_text}
use Rattle.xterm_state.proofs.closing.put_again.Goals as goal

pub returns : goal.returns
returns g c =
    let both = c.gives_join.ensures.both in
    let column = c.args.column in
    let picture = c.screen-screen.ensures.value in
    let cell = c.cell_of-cell.ensures ∙ ap (λ (p : Picture). cell_of p column) picture in
    let placed = subst (Gave g.W.Write.contents c.args.writer.now c.put_column.new.writer)
    (ap (λ k. column_text c.modes-modes.result.origin c.screen-screen.result.now.picture k) c.begin_of.ensures
    ∙ ap₂ (λ (m : Modes) (p : Picture). column_text m.origin p (begin_of p column)) c.modes-modes.ensures picture)
    c.put_column.ensures in
    let taken = subst (Gave g.W.Write.contents c.put_column.new.writer c.put_taken_out.new.writer)
    (ap₂ (λ (m : Modes) (b : Bool). text_where m.insert (taken_out_text b)) c.modes-modes.ensures (c.is_wide.ensures ∙ ap is_wide cell)) c.put_taken_out.ensures in
    let letter = subst (λ x. Gave g.W.Write.contents c.put_taken_out.new.writer c.put_cell.new.writer (printed x)) cell c.put_cell.ensures in
    both _ _ _ _ _ letter (both _ _ _ _ _ taken placed)
