use Rattle.std.proofs.Common.{◌≡◌, ◌-◌, [], ◌∷◌, ◌∙◌, ap, sym, arith, drop, length, append-nil}
use Rattle.std.proofs.lemmas.List.{length-map}
use Rattle.std.proofs.lemmas.List.Elements.{All-append}
use Rattle.vt_screen.specs.declared.cell.Cell.{Cell}
use Rattle.vt_screen.specs.Cells.{row_at}
use Rattle.screen_print.specs.FindLines.{begins, line_text_from, place_in, row_texts}
use Rattle.screen_rows.specs.RowText.{row_text, characters}
use Rattle.screen_rows.specs.Glyphs.{character}
use Rattle.screen_print.specs.Places.{IsPlace}
use Rattle.screen_print.proofs.FindLemmas.{place_alone, placed_step}
use Rattle.screen_print.proofs.standing.push_begun.Goals as goal
use Rattle.screen_print.proofs.standing.push_begun.Goals.{then-begins, else-begins}

pub begins-requires-clause-right : goal.begins-requires-clause-right
begins-requires-clause-right c =
    let still = c.args.still.now in
    let is : characters c.cells_to_margin-cells.result.now ≡ row_text still.wide (row_at still.rows c.args.line) =
    c.cells_to_margin-cells.ensures.text ∙ ap (λ wide. row_text wide c.row.result.now) c.is_wide.ensures ∙ ap (row_text still.wide) c.row.ensures.value in
    omega (arith, ap length is, length-map c.cells_to_margin-cells.result.now (λ (cell : Cell). character cell.glyph), c.columns_of-columns.ensures.columns)

pub begins-requires-clause-cells : goal.begins-requires-clause-cells
begins-requires-clause-cells c =
    let still = c.args.still.now in
    c.cells_to_margin-cells.ensures.text ∙ ap (λ wide. row_text wide c.row.result.now) c.is_wide.ensures ∙ ap (row_text still.wide) c.row.ensures.value

pub loop-column-preserved : goal.loop-column-preserved
loop-column-preserved c =
    let still = c.args.still.now in
    let line = c.args.line in
    let column = c.loop-column.column in
    let text = c.args.text.now in
    let lines = line_text_from (drop (line - 1) (row_texts still)) in
    let before = c.loop-column.places.items in
    let is : c.begins.result ≡ begins text lines column = c.begins.ensures in
    record {
      placed = placed_step text line lines column c.begins.result c.args.places.now.items before c.if-begins.places.items (omega arith) is c.loop-column.invariant.placed
          (elim c.if-begins.branch [
            | then-begins w ↦ rw (w.places-is, w.if-begins.true) w.push.ensures.items
            | else-begins w ↦ rw (w.places-is, w.if-begins.false) (sym (append-nil before))
          ]);
      short = elim c.if-begins.branch [
        | then-begins w ↦ rw w.places-is (omega (arith, w.push.ensures.len, c.loop-column.invariant.short))
        | else-begins w ↦ rw w.places-is (omega (arith, c.loop-column.invariant.short))
      ];
      within = elim c.if-begins.branch [
        | then-begins w ↦ rw (w.places-is, w.push.ensures.items)
            (All-append (IsPlace still) before (place_in line column ∷ []) c.loop-column.invariant.within
            (place_alone still (place_in line column) (record { line_low = c.requires.low; line_high = c.requires.high; column_low = omega arith; column_high = omega (arith, c.columns_of-columns.ensures.columns) })))
        | else-begins w ↦ rw w.places-is c.loop-column.invariant.within
      ];
    }
