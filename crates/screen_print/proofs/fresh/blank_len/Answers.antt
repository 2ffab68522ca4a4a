use Rattle.std.proofs.Common.{◌≡◌, ◌∙◌, ◌-◌, ◌<◌, ◌≤◌, ℕ, List, ap, arith, drop, get_or, length, subst, sym, take}
use Rattle.std.proofs.lemmas.List.{length-take, take-take, take_rest}
use Rattle.std.proofs.lemmas.List.Sums.{AllPass-from_list_all}
use Rattle.std.specs.List.{list_all}
use Rattle.vt_parser.specs.Syntax.{is_graphic}
use Rattle.vt_screen.specs.declared.cell.Cell.{Cell}
use Rattle.vt_screen.specs.declared.cell.Row.{Row}
use Rattle.vt_screen.specs.Cells.{blank, row_at}
use Rattle.vt_screen.specs.Picture.{margin_of, right_margin}
use Rattle.screen_print.proofs.FreeLemmas.{prefix_all}
use Rattle.screen_print.proofs.FreshLemmas.{is_blank_for}
use Rattle.screen_print.proofs.fresh.blank_len.Goals as goal

pub returns-clause-graphic : goal.returns-clause-graphic
returns-clause-graphic c =
    let bytes = c.args.bytes.now in
    let most = c.min.result in
    let len = c.min-len.result in
    let front = take most bytes in
    let few : len ≤ most = omega (arith, c.min-len.ensures, c.printable_run-run.ensures.within, length-take most bytes) in
    AllPass-from_list_all is_graphic (take len bytes)
    (ap (λ l. list_all is_graphic l) (sym (take-take len most bytes few))
    ∙ prefix_all is_graphic front len (omega (arith, c.min-len.ensures, c.printable_run-run.ensures.value)))

pub returns-clause-blank : goal.returns-clause-blank
returns-clause-blank c = λ some.
    let p = c.args.screen.now.picture in
    let m = right_margin p p.line in
    let all = c.row.result.now.cells in
    let cells = c.cells_to_margin-cells.result.now in
    let row : c.row.result.now ≡ row_at p.rows p.line = c.row.ensures.value ∙ ap (row_at p.rows) c.cursor-line.ensures.line in
    let margin : margin_of c.is_wide.result c.row.result.now.size ≡ m =
    ap (λ w. margin_of w c.row.result.now.size) c.is_wide.ensures ∙ ap (λ (r : Row). margin_of p.wide r.size) row in
    let are = c.cells_to_margin-cells.ensures.cells ∙ ap (λ k. take k all) margin in
    let long : length cells ≡ m = omega (arith, ap length are, length-take m all, c.row.ensures.sound.cells, c.right_margins.ensures.high p p.line) in
    let column = c.cursor-line.ensures.column in
    is_blank_for p cells c.min-len.result (sym c.wrap.ensures ∙ c.if-wrap.false) (are ∙ ap (λ (r : Row). take m r.cells) row) long
    c.cursor-line.ensures.sound.column_low c.cursor-line.ensures.sound.column_high
    (omega (arith, c.min-len.ensures, column))
    (λ k lt. subst (λ (at : ℕ). k < length (drop (at - 1) cells) → (get_or (drop (at - 1) cells) k blank).glyph ≡ 32) column
    (subst (λ (l : List Cell). k < length l → (get_or l k blank).glyph ≡ 32) (take_rest cells (c.cursor-line.result.1 - 1)) (c.are_spaces.ensures c.if-not-are_spaces.false k)) lt)
