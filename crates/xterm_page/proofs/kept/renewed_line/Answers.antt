use Rattle.std.proofs.Common.{◌≡◌, ◌+◌, ◌-◌, ◌≤◌, ◌∙◌, Some, ap, arith, get_or, inl, inr, length, refl, sym}
use Rattle.std.proofs.lemmas.Bool.{cases_Bool}
use Rattle.sheet.specs.Grid.{row_at}
use Rattle.xterm_print.proofs.KeptLemmas.{row_read}
use Rattle.xterm_page.specs.Entries.{line_of}
use Rattle.xterm_page.specs.Parts.{is_renewed}
use Rattle.xterm_page.specs.Same.{row_number}
use Rattle.xterm_page.proofs.EqualLemmas.{rows_equal}
use Rattle.xterm_page.proofs.RenewedLemmas.{renewed_apart}
use Rattle.xterm_page.proofs.kept.renewed_line.Goals as goal

pub returns-then-not-some_differs-clause-told : goal.returns-then-not-some_differs-clause-told
returns-then-not-some_differs-clause-told c = λ _ _.
    let rows = c.args.rows.now in
    let line = c.args.line in
    let origins = c.args.screen.now.origins in
    let now = row_at c.args.screen.now.picture.rows line in
    let was = c.index-rows-line.is ∙ sym (row_read rows line c.index-rows-line.result c.requires.low (omega (arith, c.requires.high, c.requires.rows))) in
    let here = ap (λ r. is_renewed origins r now line) (sym was) ∙ c.some_differs.ensures.none c.if-not-some_differs.true in
    rw here refl

pub returns-then-has_come-clause-told : goal.returns-then-has_come-clause-told
returns-then-has_come-clause-told c = λ marks known.
    let rows = c.args.rows.now in
    let line = c.args.line in
    let origins = c.args.screen.now.origins in
    let after = c.args.screen.now.picture.rows in
    let was = c.index-rows-line.is ∙ sym (row_read rows line c.index-rows-line.result c.requires.low (omega (arith, c.requires.high, c.requires.rows))) in
    let apart : after ≡ rows → ⊥ = elim (cases_Bool c.args.some) [
      | inl t ↦ known t
      | inr f ↦ renewed_apart origins rows after line (ap (λ r. is_renewed origins r (row_at after line) line) (sym was) ∙ c.some_differs.ensures.some c.if-not-some_differs.false f)
    ] in
    let tells = marks.move apart in
    rw (c.has_come.ensures.renewed tells c.if-has_come.true) (ap Some (c.line_at.ensures.line
    ∙ ap (λ n. line_of n rows (row_at rows (c.args.guess + 1))) c.requires.rows
    ∙ ap (line_of c.args.screen.now.picture.lines rows) (sym (c.has_come.ensures.same tells c.if-has_come.true))))

pub still_differs-requires : goal.still_differs-requires
still_differs-requires c = record {
  low = c.requires.low;
  high = c.requires.high;
  touched = c.requires.touched;
  found = λ f.
      let rows = c.args.rows.now in
      let line = c.args.line in
      let high : line ≤ length rows = omega (arith, c.requires.high, c.requires.rows) in
      let first = row_read rows line c.index-rows-line.result c.requires.low high ∙ sym c.index-rows-line.is in
      let second = row_read rows line c.index-rows-line-2.result c.requires.low high ∙ sym c.index-rows-line-2.is in
      ap (λ r. is_renewed c.args.screen.now.origins r (row_at c.args.screen.now.picture.rows line) line) (sym second ∙ first)
      ∙ c.some_differs.ensures.some c.if-not-some_differs.false f;
}

pub returns-then-has_moved-clause-told : goal.returns-then-has_moved-clause-told
returns-then-has_moved-clause-told c = λ _ _.
    let rows = c.args.rows.now in
    let now = row_at c.args.screen.now.picture.rows c.args.line in
    let there = rows_equal (row_at rows (c.args.guess + 1)) now (c.has_moved.ensures.same c.if-has_moved.true) in
    rw (c.has_moved.ensures.renewed c.if-has_moved.true) (ap Some (c.line_at-then-has_moved.ensures.line ∙ ap (λ n. line_of n rows (row_at rows (c.args.guess + 1))) c.requires.rows
    ∙ ap (line_of c.args.screen.now.picture.lines rows) there))

pub returns-then-has_moved-clause-number : goal.returns-then-has_moved-clause-number
returns-then-has_moved-clause-number c =
    let rows = c.args.rows.now in
    let guess = c.args.guess in
    let row = c.index-rows-guess.result in
    let now = row_at c.args.screen.now.picture.rows c.args.line in
    let there : guess + 1 - 1 ≡ guess = omega arith in
    let within : guess + 1 ≤ length rows = omega (arith, c.has_moved.ensures.within c.if-has_moved.true) in
    let read = row_read rows (guess + 1) row (omega arith) within ∙ ap (λ n. get_or rows n row) there ∙ sym c.index-rows-guess.is in
    c.row.invariant.number ∙ ap row_number (c.row.view_is ∙ sym read ∙ rows_equal (row_at rows (guess + 1)) now (c.has_moved.ensures.same c.if-has_moved.true))

pub returns-then-still_differs-clause-told : goal.returns-then-still_differs-clause-told
returns-then-still_differs-clause-told c = λ _ _.
    let rows = c.args.rows.now in
    let line = c.args.line in
    let origins = c.args.screen.now.origins in
    let now = row_at c.args.screen.now.picture.rows line in
    let was = c.index-rows-line-2.is ∙ sym (row_read rows line c.index-rows-line-2.result c.requires.low (omega (arith, c.requires.high, c.requires.rows))) in
    let here = ap (λ r. is_renewed origins r now line) (sym was) ∙ sym c.still_differs.ensures ∙ c.if-still_differs.true in
    rw here (ap Some (c.renewed_of.ensures.was ∙ ap (λ n. line_of n rows c.row-then-still_differs.result.now) c.requires.rows
    ∙ ap (line_of c.args.screen.now.picture.lines rows) c.row-then-still_differs.ensures.value))

pub returns-clause-told : goal.returns-clause-told
returns-clause-told c = λ _ _.
    let rows = c.args.rows.now in
    let line = c.args.line in
    let origins = c.args.screen.now.origins in
    let now = row_at c.args.screen.now.picture.rows line in
    let was = c.index-rows-line-2.is ∙ sym (row_read rows line c.index-rows-line-2.result c.requires.low (omega (arith, c.requires.high, c.requires.rows))) in
    let here = ap (λ r. is_renewed origins r now line) (sym was) ∙ sym c.still_differs.ensures ∙ c.if-still_differs.false in
    rw here refl
