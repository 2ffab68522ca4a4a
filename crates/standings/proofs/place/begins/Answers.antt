use Rattle.std.proofs.Common.{◌≡◌, ℕ, ◌+◌, ◌∙◌, ◌++◌, List, ap, arith, drop, false, length, nat_eq, sym, true}
use Rattle.std.specs.List.{starts_with}
use Rattle.std.proofs.lemmas.List.{get_or-drop, take_rest}
use Rattle.standings.specs.Rows.{Row, empty_row, row_below}
use Rattle.standings.specs.Standing.{begins, line_text}
use Rattle.standings.proofs.RowLemmas.{line_along}
use Rattle.standings.proofs.place.begins.Goals as goal

first_row : (rows : List Row) (above : ℕ) (characters : List ℕ) → characters ≡ (row_below rows above).characters → (row_below (drop above rows) 0).characters ≡ characters
first_row rows above characters is =
    let here : above + 0 ≡ above = omega arith in
    ap (λ (r : Row). r.characters) (get_or-drop above rows 0 empty_row ∙ ap (row_below rows) here) ∙ sym is

pub returns-then-not-may_begin : goal.returns-then-not-may_begin
returns-then-not-may_begin c =
    let here = first_row c.args.rows.now c.args.above c.args.characters.now c.requires.characters in
    sym (line_along (drop c.args.above c.args.rows.now) c.args.before c.args.text.now false (omega (arith, c.requires.before, ap length here))
    (λ rest. ap (λ l. starts_with nat_eq (drop c.args.before l ++ rest) c.args.text.now) here ∙ c.may_begin.ensures.differs c.if-not-may_begin.true rest))

pub returns-then-text-le1 : goal.returns-then-text-le1
returns-then-text-le1 c =
    let here = first_row c.args.rows.now c.args.above c.args.characters.now c.requires.characters in
    sym (line_along (drop c.args.above c.args.rows.now) c.args.before c.args.text.now true (omega (arith, c.requires.before, ap length here))
    (λ rest. ap (λ l. starts_with nat_eq (drop c.args.before l ++ rest) c.args.text.now) here ∙ c.may_begin.ensures.one c.if-not-may_begin.false c.if-text-le1.true rest))

pub returns : goal.returns
returns c =
    c.begins_along.ensures ∙ ap (λ l. begins c.args.text.now (line_text l) c.args.before) (take_rest c.args.rows.now c.args.above)
