use Rattle.std.proofs.Common.{[], ◌∷◌, subst, sym, ◌∙◌}
use Rattle.std.specs.Prelude.{OnOk}
use Rattle.std.specs.List.{flat_map}
use Rattle.sheet.specs.Grid.{row_at}
use Rattle.transcripts.specs.Told.{Tells}
use Rattle.xterm_rows.specs.RowText.{printed}
use Rattle.xterm_screen.specs.Sheets.{main_rows}
use Rattle.xterm_transcript.proofs.RowLemmas.{no_text, some_text, text_of_row}
use Rattle.xterm_transcript.proofs.rows.tell_row.Goals as goal

pub returns-then-not-has_text-clause-tells : goal.returns-then-not-has_text-clause-tells
returns-then-not-has_text-clause-tells g c =
    let cells = c.text_cells-cells.result.now in
    let text = text_of_row (row_at (main_rows c.args.screen.now.picture) c.args.line) cells c.text_cells-cells.ensures in
    subst (λ l. OnOk c.put.result (Tells g.W.Write.contents c.args.writer.now c.args.rows.now c.put.new.writer c.put.new.self (l ∷ [])))
    (sym (no_text cells (sym c.has_text.ensures ∙ c.if-not-has_text.true)) ∙ text) c.put.ensures.tells

pub returns-clause-tells : goal.returns-clause-tells
returns-clause-tells g c =
    let cells = c.text_cells-cells.result.now in
    let text = text_of_row (row_at (main_rows c.args.screen.now.picture) c.args.line) cells c.text_cells-cells.ensures in
    subst (λ l. Tells g.W.Write.contents c.args.writer.now c.args.rows.now c.end_row.new.writer c.end_row.new.self (l ∷ [])) text
    (c.end_row.ensures c.args.writer.now c.args.rows.now (flat_map printed cells) (some_text cells (sym c.has_text.ensures ∙ c.if-not-has_text.false))
    (c.put_cells.ensures c.args.writer.now c.args.rows.now [] c.begin_row.ensures))
