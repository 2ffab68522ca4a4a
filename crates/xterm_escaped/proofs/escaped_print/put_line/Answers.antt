use Rattle.std.proofs.Common.{◌≡◌, ◌++◌, List, ℕ, length, false, ap, sym, ◌∙◌, subst, not}
use Rattle.std.specs.Prelude.{◌==◌}
use Rattle.tape_core.specs.Devices.{Gave}
use Rattle.sheet.specs.Cells.{Cell}
use Rattle.xterm_rows.specs.Ink.{inked}
use Rattle.xterm_escaped.specs.EscapedText.{cells_text, line_text, placed_text, text_where}
use Rattle.xterm_escaped.proofs.escaped_print.put_line.Goals as goal

pub returns-clause-text : goal.returns-clause-text
unfolding line_text
returns-clause-text g c =
    let row = c.args.row.now in
    let some : (length (inked row) == 0) ≡ false = cc in
    let text : List Cell → List ℕ = λ cells. placed_text c.args.line 1 ++ cells_text c.args.last cells in
    subst (Gave g.W.Write.contents c.args.writer.now c.put_cells.new.writer)
    (ap text c.inked-cells.ensures.inked ∙ sym (ap (λ b. text_where (not b) (text (inked row))) some))
    (c.gives_join.ensures.both _ _ _ _ _ c.put_cells.ensures.text c.put_place.ensures)
