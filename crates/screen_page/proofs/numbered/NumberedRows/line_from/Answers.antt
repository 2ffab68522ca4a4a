use Rattle.std.proofs.Common.{sym, ◌∙◌, arith}
use Rattle.vt_screen.specs.Cells.{row_at}
use Rattle.screen_rows.specs.SameRows.{same_row}
use Rattle.screen_page.proofs.PageLemmas.{first_found, none_found}
use Rattle.screen_page.proofs.numbered.NumberedRows.line_from.Goals as goal

pub returns-then-is_row : goal.returns-then-is_row
returns-then-is_row c =
    let line = c.loop-line.line in
    sym (first_found (λ k. same_row (row_at c.args.self.now.rows k) c.args.row.now) 1 24 line
    (λ k low below. c.loop-line.invariant k low (omega arith) below) (omega arith) (omega arith) (sym c.is_row.ensures ∙ c.if-is_row.true))

pub returns : goal.returns
returns c =
    sym (none_found (λ k. same_row (row_at c.args.self.now.rows k) c.args.row.now) 1 24
    (λ k low below. c.loop-line.invariant k low (omega arith) (omega arith)))
