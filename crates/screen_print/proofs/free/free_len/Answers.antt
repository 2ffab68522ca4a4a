use Rattle.std.proofs.Common.{◌≡◌, ◌∙◌, ◌+◌, ◌-◌, ℕ, ap, arith, false, get_or, length, subst, sym, take}
use Rattle.std.proofs.lemmas.List.{length-take}
use Rattle.vt_screen.specs.declared.cell.Row.{Row}
use Rattle.vt_screen.specs.Cells.{blank, row_at}
use Rattle.vt_screen.specs.Picture.{margin_of, right_margin}
use Rattle.screen_print.specs.Skim.{is_pair}
use Rattle.screen_print.proofs.FreeLemmas.{is_free}
use Rattle.screen_print.proofs.free.free_len.Goals as goal

pub returns-clause-free : goal.returns-clause-free
returns-clause-free c = λ some.
    let p = c.args.screen.now.picture in
    let bytes = c.args.bytes.now in
    let all = c.row-row.result.now.cells in
    let most = c.min.result in
    let len = c.min-len.result in
    let m = right_margin p p.line in
    let row : c.row-row.result.now ≡ row_at p.rows p.line = c.row-row.ensures.value ∙ ap (row_at p.rows) c.cursor-line.ensures.line in
    let margin : margin_of c.is_wide.result c.row-row.result.now.size ≡ m =
    ap (λ w. margin_of w c.row-row.result.now.size) c.is_wide.ensures ∙ ap (λ (r : Row). margin_of p.wide r.size) row in
    let are = c.cells_to_margin.ensures.cells ∙ ap (λ k. take k all) margin in
    let long : length c.cells_to_margin.result.now ≡ m = omega (arith, ap length are, length-take m all, c.row-row.ensures.sound.cells, c.right_margins.ensures.high p p.line) in
    let column = c.cursor-line.ensures.column in
    is_free c.args.ending p bytes all most len c.apart_len.result
    (sym c.wrap.ensures ∙ c.if-wrap.false) (ap (λ (r : Row). r.cells) row)
    (omega (arith, c.min-len.ensures, long, column, c.cursor-line.ensures.sound.column_high)) (omega (arith, c.min-len.ensures, c.printable_run-run.ensures.value)) (omega (arith, c.min.ensures))
    some c.apart_len.ensures.within
    (λ k lt. subst (λ (at : ℕ). (get_or all (at + k) blank).glyph ≡ 32) column (c.is_blank.ensures c.if-not-is_blank.false k lt))
    (λ behind.
    subst (λ (at : ℕ). is_pair c.args.ending (get_or all (at - 2) blank).glyph (get_or bytes 0 0) ≡ false) column
    (c.is_begun.ensures c.if-is_begun.false (omega (arith, behind, column)))) c.apart_len.ensures.apart
