use Rattle.std.proofs.Common.{◌≡◌, ◌+◌, ◌-◌, ◌%◌, ◌≤◌, ◌∙◌, ℕ, List, Option, Some, ap, arith, false, get_or, length, subst, sym}
use Rattle.sheet.specs.Cells.{Cell}
use Rattle.sheet.specs.Grid.{IsUsed, row_at}
use Rattle.xterm_print.proofs.KeptLemmas.{row_read}
use Rattle.xterm_page.specs.Entries.{line_of}
use Rattle.xterm_page.specs.Same.{row_number}
use Rattle.xterm_page.proofs.KeptLemmas.{line_or, or_line}
use Rattle.xterm_page.proofs.MarkLemmas.{first_by_mark}
use Rattle.xterm_page.proofs.SameLemmas.{row_itself}
use Rattle.xterm_page.proofs.kept.line_at.Goals as goal

-- a row as it is read
read : (rows : List (List Cell)) (place : ℕ) (row : List Cell) → place + 1 ≤ length rows → row ≡ get_or rows place row → row_at rows (place + 1) ≡ row
read rows place row within is =
    let there : place + 1 - 1 ≡ place = omega arith in
    row_read rows (place + 1) row (omega arith) within ∙ ap (λ n. get_or rows n row) there ∙ sym is

pub line_of-requires : goal.line_of-requires
line_of-requires c = record {
  lines = omega (arith, c.requires.within);
  number = c.row.invariant.number ∙ ap row_number (sym c.as_slice.ensures.value);
  used = subst (λ (r : List Cell). IsUsed r c.row.inside.used) (sym c.as_slice.ensures.value) c.row.invariant.used;
}

pub returns-in-Some-clause-line : goal.returns-in-Some-clause-line
returns-in-Some-clause-line c =
    let rows = c.args.rows.now in
    let place = c.args.place in
    let own = row_at rows (place + 1) in
    let is = c.as_slice.ensures.value ∙ c.row.view_is ∙ sym (read rows place c.index-rows-place.result (omega (arith, c.requires.within)) c.index-rows-place.is) in
    sym (line_or rows own place c.requires.within (row_itself own)
    ∙ ap (λ (o : Option ℕ). Some (or_line o (place + 1))) (ap (line_of place rows) (sym is) ∙ sym c.line_of.ensures ∙ c.in-Some.is))

pub returns-in-None-clause-line : goal.returns-in-None-clause-line
returns-in-None-clause-line c =
    let rows = c.args.rows.now in
    let place = c.args.place in
    let own = row_at rows (place + 1) in
    let is = c.as_slice.ensures.value ∙ c.row.view_is ∙ sym (read rows place c.index-rows-place.result (omega (arith, c.requires.within)) c.index-rows-place.is) in
    sym (line_or rows own place c.requires.within (row_itself own)
    ∙ ap (λ (o : Option ℕ). Some (or_line o (place + 1))) (ap (line_of place rows) (sym is) ∙ sym c.line_of.ensures ∙ c.in-None.is))

pub returns-then-not-marks-mark_of-clause-line : goal.returns-then-not-marks-mark_of-clause-line
returns-then-not-marks-mark_of-clause-line c =
    let rows = c.args.rows.now in
    let place = c.args.place in
    let marks = c.mark_to.new.marks in
    let own = row_at rows (place + 1) in
    let number = c.row.invariant.number
    ∙ ap row_number (c.row.view_is ∙ sym (read rows place c.index-rows-place.result (omega (arith, c.requires.within)) c.index-rows-place.is)) in
    let none : get_or marks (c.row.inside.number % 2048) false ≡ false = ap (λ n. get_or marks n false) (sym c.mark_of.ensures.value) ∙ c.if-not-marks-mark_of.true in
    sym (first_by_mark rows own place c.mark_to.new.marked c.row.inside.number marks c.requires.within (row_itself own) number c.mark_to.ensures c.if-place-marked.true none)
