use Rattle.std.proofs.Common.{◌-◌, ◌∙◌, arith, length, refl, subst, sym}
use Rattle.std.specs.Prelude.{[]}
use Rattle.std.proofs.lemmas.Bool.{eqb-false}
use Rattle.standings.specs.Kept.{EndBy}
use Rattle.standings.proofs.KeptLemmas.{ends_here}
use Rattle.xterm_print.specs.Pieces.{left_of_cursor, rows_behind}
use Rattle.xterm_print.proofs.pieces.is_quiet.Goals as goal

pub returns-clause-ends : goal.returns-clause-ends
returns-clause-ends c = λ quiet x shows rows places.
    let text = c.args.text.now in
    let still = c.args.still.now in
    let above = x.console.picture.line - 1 in
    let before = length (left_of_cursor x) in
    let ends = subst (λ r. EndBy (length text) r still.places.items above before) rows (c.ends_left.ensures quiet text x refl shows rows places) in
    λ k i low lt fits begun. ends_here text (rows_behind x [] 0) still.places.items above before k i ends places low lt fits begun

pub returns-clause-some : goal.returns-clause-some
returns-clause-some c = λ quiet. omega (arith, eqb-false (length c.args.text.now) 0 (sym c.is_empty.ensures ∙ c.if-is_empty.false))
