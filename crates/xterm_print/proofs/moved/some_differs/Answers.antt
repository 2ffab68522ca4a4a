use Rattle.std.proofs.Common.{◌≡◌, ◌==◌, ◌<◌, ◌∙◌, ap, arith, false, length, not, sym}
use Rattle.std.proofs.lemmas.Bool.{false≢true}
use Rattle.std.proofs.lemmas.Bool.Decides.{nat_tests}
use Rattle.sheet.specs.Grid.{row_at}
use Rattle.xterm_print.specs.ChangeLines.{same_row}
use Rattle.xterm_print.proofs.KeptLemmas.{some_differ}
use Rattle.xterm_print.proofs.moved.some_differs.Goals as goal

pub returns-then-not-is_empty : goal.returns-then-not-is_empty
returns-then-not-is_empty c = λ _ before follows so_far.
    let empty : c.is_empty.result ≡ (length c.args.changed.now.items == 0) = c.is_empty.ensures in
    let some : 0 < length c.args.changed.now.items = grind (arith, nat_tests) in
    some_differ before c.args.screen.now.picture.rows c.args.line c.args.changed.now.items so_far some

pub returns : goal.returns
returns c = λ is before follows so_far same.
    let kept = row_at c.args.rows.now c.args.line in
    let here : not (same_row kept (row_at c.args.screen.now.picture.rows c.args.line)) ≡ false =
    ap (λ rows. not (same_row kept (row_at rows c.args.line))) same ∙ ap not follows.same in
    false≢true (sym here ∙ sym c.is_renewed.ensures ∙ is)
