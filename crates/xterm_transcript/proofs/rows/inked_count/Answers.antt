use Rattle.std.proofs.Common.{◌+◌, ◌<◌, length, arith, subst, sym, ◌∙◌}
use Rattle.sheet.specs.Grid.{row_at}
use Rattle.xterm_screen.specs.Sheets.{main_rows}
use Rattle.xterm_transcript.proofs.RowLemmas.{blank_next, inked_next, no_text, some_text, text_of_row}
use Rattle.xterm_transcript.proofs.rows.inked_count.Goals.{then-has_text, else-has_text}
use Rattle.xterm_transcript.proofs.rows.inked_count.Goals as goal

pub loop-line-preserved : goal.loop-line-preserved
loop-line-preserved c =
    let p = c.args.screen.now.picture in
    let line = c.loop-line.line in
    let within = c.loop-line.invariant.within in
    let sound = c.cursor-sound.ensures.sound in
    let cells = c.text_cells.result.now in
    let text = text_of_row (row_at (main_rows p) (line + 1)) cells c.text_cells.ensures in
    elim c.if-has_text.branch [
      | then-has_text w ↦
          rw w.count-is record {
            within = omega arith;
            value = inked_next p line sound (omega arith) (subst (λ l. 0 < length l) text (some_text cells (sym c.has_text.ensures ∙ w.if-has_text.true)));
          }
      | else-has_text w ↦
          rw w.count-is record {
            within = omega (arith, within);
            value = blank_next p line c.loop-line.count sound (omega arith) (sym text ∙ no_text cells (sym c.has_text.ensures ∙ w.if-has_text.false)) c.loop-line.invariant.value;
          }
    ]
