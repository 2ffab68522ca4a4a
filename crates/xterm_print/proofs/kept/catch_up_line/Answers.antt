use Rattle.std.proofs.Common.{◌≡◌, ◌-◌, ◌∙◌, ap, arith, get_or, length, not, subst, sym}
use Rattle.std.proofs.lemmas.List.{length-set}
use Rattle.sheet.specs.Grid.{row_at}
use Rattle.xterm_print.specs.ChangeLines.{same_row}
use Rattle.xterm_print.specs.Kept.{Follows}
use Rattle.xterm_print.proofs.KeptLemmas.{row_read, row_set_other, row_set_same, same_as}
use Rattle.xterm_print.proofs.kept.catch_up_line.Goals as goal

pub returns-clause-whole : goal.returns-clause-whole
returns-clause-whole c = length-set c.args.rows.now (c.args.line - 1) c.catch_up.new.self

pub returns-clause-others : goal.returns-clause-others
returns-clause-others c = λ k here other. row_set_other c.args.rows.now c.args.line k c.catch_up.new.self c.requires.low here other

-- the row that is caught up with
was : (c : goal.After-catch_up) → get_or c.args.rows.now (c.args.line - 1) c.index-rows-line.result ≡ row_at c.args.rows.now c.args.line
was c = sym (row_read c.args.rows.now c.args.line c.index-rows-line.result c.requires.low (omega (arith, c.requires.whole, c.requires.high)))

pub returns-clause-changed : goal.returns-clause-changed
returns-clause-changed c = λ before told follow.
    c.catch_up.ensures.changed ∙ ap (λ row. not (same_row row c.row.result.now)) (was c)
    ∙ ap (λ row. not (same_row (row_at c.args.rows.now c.args.line) row)) c.row.ensures.value
    ∙ ap not (same_as (row_at c.args.rows.now c.args.line) (row_at before c.args.line) (row_at c.args.screen.now.picture.rows c.args.line) follow.same)

pub returns-clause-caught : goal.returns-clause-caught
returns-clause-caught c = λ before told follow.
    let columns = c.args.screen.now.picture.columns in
    let row = c.catch_up.new.self in
    let long = ap length (was c) ∙ follow.columns ∙ sym c.row.ensures.columns in
    subst (λ r. Follows columns r (row_at c.args.screen.now.picture.rows c.args.line))
    (sym (row_set_same c.args.rows.now c.args.line row c.requires.low (omega (arith, c.requires.whole, c.requires.high))))
    (subst (λ r. Follows columns row r) c.row.ensures.value
    (subst (λ w. Follows w row c.row.result.now) c.row.ensures.columns (c.catch_up.ensures.caught long)))
