use Rattle.std.proofs.Common.{◌≡◌, ℕ, ◌+◌, ◌-◌, ◌∙◌, List, [], ◌∷◌, false, ap, ap₂, arith}
use Rattle.sheet.specs.Cells.{Cell, cell_at, is_covered, is_wide}
use Rattle.sheet.specs.Edits.{written}
use Rattle.sheet.specs.Halves.{border_mended}
use Rattle.sheet.proofs.Rows.{narrow_put, narrow_written, still_narrow}
use Rattle.sheet.proofs.Runs.{run_inside}
use Rattle.sheet.proofs.row.put_narrow.Goals as goal

pub mend_before-requires-clause-open : goal.mend_before-requires-clause-open
mend_before-requires-clause-open c =
    let column = c.args.column in
    let row = c.args.cells.now in
    ap (λ (r : List Cell). is_covered (cell_at r column)) (narrow_written column c.args.character c.args.rendition row c.requires.low _ c.lettered.ensures c.requires.high)
    ∙ (run_inside c.args.rendition (c.args.character ∷ []) column row column c.requires.low (omega (arith, c.requires.high)) (omega arith) (omega arith)).1

pub mend_behind-requires-clause-narrow : goal.mend_behind-requires-clause-narrow
mend_behind-requires-clause-narrow c =
    let column = c.args.column in
    let row = c.args.cells.now in
    let w = written column c.args.character false c.args.rendition row in
    let before = c.mend_before.ensures ∙ ap₂ (border_mended column) c.paper-paper.ensures (narrow_written column c.args.character c.args.rendition row c.requires.low _ c.lettered.ensures c.requires.high) in
    let back : column + 1 - 1 ≡ column = omega arith in
    ap₂ (λ (r : List Cell) (k : ℕ). is_wide (cell_at r k)) before back
    ∙ still_narrow column c.args.rendition.paper w column c.requires.low
    (run_inside c.args.rendition (c.args.character ∷ []) column row column c.requires.low (omega (arith, c.requires.high)) (omega arith) (omega arith)).0

pub returns : goal.returns
returns c =
    let column = c.args.column in
    c.mend_behind.ensures ∙ ap₂ (border_mended (column + 1)) c.paper-paper.ensures (c.mend_before.ensures ∙ ap₂ (border_mended column) c.paper-paper.ensures
    (narrow_written column c.args.character c.args.rendition c.args.cells.now c.requires.low _ c.lettered.ensures c.requires.high))
    ∙ narrow_put column c.args.character c.args.rendition c.args.cells.now c.requires.low c.requires.whole c.requires.high
