use Rattle.std.proofs.Common.{◌≡◌, ◌+◌, ◌-◌, ◌≤◌, ◌∙◌, ℕ, List, Option, None, Some, refl, ap, ap₂, arith, true, get_or, is_none, length, not, sym}
use Rattle.sheet.specs.Cells.{Cell}
use Rattle.sheet.specs.Grid.{row_at}
use Rattle.xterm_print.specs.ChangeLines.{same_row}
use Rattle.xterm_print.proofs.KeptLemmas.{row_read}
use Rattle.xterm_print.proofs.moved.differ.Goals as goal

-- a row as it is read
read : (rows : List (List Cell)) (place : ℕ) (row : List Cell) → place + 1 ≤ length rows → row ≡ get_or rows place row → row_at rows (place + 1) ≡ row
read rows place row within is =
    let there : place + 1 - 1 ≡ place = omega arith in
    row_read rows (place + 1) row (omega arith) within ∙ ap (λ n. get_or rows n row) there ∙ sym is

none_found : {X : Type 0} (o : Option X) → ((x : X) → o ≡ Some x → ⊥) → is_none o ≡ true
none_found (Some x) none = absurd (none x refl)
none_found None none = refl

pub returns-in_default-clause-differ : goal.returns-in_default-clause-differ
returns-in_default-clause-differ c =
    let rows = c.args.rows.now in
    let one = read rows c.args.place c.index-rows-place.result (omega (arith, c.requires.place)) c.index-rows-place.is in
    let two = read rows c.args.other c.index-rows-other.result (omega (arith, c.requires.other)) c.index-rows-other.is in
    sym (ap not (ap₂ (λ (a b : List Cell). same_row a b) one two ∙ sym c.place_apart_from.ensures ∙ none_found c.place_apart_from.result c.in_default.not-Some))

pub returns-clause-differ : goal.returns-clause-differ
returns-clause-differ c =
    let rows = c.args.rows.now in
    let one = read rows c.args.place c.index-rows-place.result (omega (arith, c.requires.place)) c.index-rows-place.is in
    let two = read rows c.args.other c.index-rows-other.result (omega (arith, c.requires.other)) c.index-rows-other.is in
    sym (ap not (ap₂ (λ (a b : List Cell). same_row a b) one two ∙ sym c.place_apart_from.ensures ∙ ap is_none c.in-Some.is))
