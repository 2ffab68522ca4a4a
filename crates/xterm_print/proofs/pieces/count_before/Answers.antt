use Rattle.std.proofs.Common.{◌≡◌, ◌∙◌, ap, arith, get_or, subst, sym}
use Rattle.std.proofs.lemmas.List.{get_or_default}
use Rattle.sheet.specs.declared.rendition.Colour.TheVariants.{Default}
use Rattle.sheet.specs.Cells.{blank}
use Rattle.standings.specs.Rows.{Row, empty_row, row_below}
use Rattle.xterm_print.specs.Pieces.{IsPlain}
use Rattle.xterm_print.proofs.PlaceLemmas.{place_read}
use Rattle.xterm_print.proofs.pieces.count_before.Goals as goal

pub returns-then-column-before : goal.returns-then-column-before
returns-then-column-before c = λ next is.
    let cells = c.args.cells.now in
    let rows = c.args.rows.now in
    let before = c.args.before in
    let cell = c.index-cells-before.result in
    let at : cell ≡ get_or cells before (blank Default) =
    c.index-cells-before.is ∙ get_or_default cells before cell (blank Default) (omega (arith, c.if-before-cells.true)) in
    let row : c.index-rows-above.result ≡ row_below rows c.args.above =
    c.index-rows-above.is ∙ get_or_default rows c.args.above c.index-rows-above.result empty_row (omega (arith, c.if-above-rows.true)) in
    place_read cells next before (omega (arith, c.if-before-cells.true))
    (subst IsPlain at (record { kind = c.is_plain.ensures.kind c.if-is_plain.true; alone = c.is_plain.ensures.alone c.if-is_plain.true }))
    (ap (λ (r : Row). get_or r.columns before 0) (sym (row ∙ is)) ∙ sym c.column.ensures ∙ c.if-column-before.true)
