use Rattle.std.proofs.Common.{◌≡◌, ◌∙◌, ap, arith, length, subst}
use Rattle.std.proofs.lemmas.List.{length-map}
use Rattle.tape_core.specs.Devices.{Gave}
use Rattle.vt_screen.specs.declared.cell.Cell.{Cell}
use Rattle.vt_screen.specs.Cells.{row_at}
use Rattle.screen_rows.specs.RowText.{row_text, printed_line, characters}
use Rattle.screen_rows.specs.Glyphs.{character}
use Rattle.screen_print.proofs.FoundLemmas.{printed_found}
use Rattle.screen_print.proofs.find_lines.put_rows.Goals as goal

pub returns-then-least-columns : goal.returns-then-least-columns
returns-then-least-columns g c =
    let still = c.args.still.now in
    let place = c.args.place in
    let cells = c.cells_to_margin-columns.result.now in
    let is : characters cells ≡ row_text still.wide (row_at still.rows place.line) =
    c.cells_to_margin-columns.ensures.text ∙ ap (λ wide. row_text wide c.row-row.result.now) c.is_wide.ensures ∙ ap (row_text still.wide) c.row-row.ensures.value in
    let text : c.as_bytes.result.now ≡ printed_line still.wide (row_at still.rows place.line) = cc in
    subst (Gave g.W.Write.contents c.args.writer.now c.give.new.self)
    (text ∙ printed_found still place c.args.len c.sound.ensures.whole c.requires.place
    (omega (arith, c.if-least-columns.true, length-map cells (λ (cell : Cell). character cell.glyph), ap length is, c.requires.place.column_low)))
    c.give.ensures
