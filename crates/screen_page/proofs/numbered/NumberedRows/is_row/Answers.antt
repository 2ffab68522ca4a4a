use Rattle.std.proofs.Common.{ap, sym, ◌∙◌, arith}
use Rattle.vt_screen.specs.Cells.{row_at}
use Rattle.vt_screen.proofs.Tables.{nth_is}
use Rattle.screen_rows.specs.KeptRows.{Kept}
use Rattle.screen_page.specs.Numbered.{row_number}
use Rattle.screen_page.proofs.NumberLemmas.{others_by_number}
use Rattle.screen_page.proofs.numbered.NumberedRows.is_row.Goals as goal

pub returns-else-self-line : goal.returns-else-self-line
returns-else-self-line c =
    let line = c.args.line in
    let one = row_at c.args.self.now.rows line in
    let numbers = c.self.inside.numbers in
    let is = sym (nth_is 0 numbers line) ∙ c.self.invariant.numbers line c.requires.low (omega arith)
    ∙ ap (λ (k : Kept). row_number (row_at k.rows line)) c.self.view_is in
    others_by_number one c.args.row.now _ c.args.number is c.requires.number c.if-self-line.false
