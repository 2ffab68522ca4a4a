use Rattle.std.proofs.Common.{◌≡◌, ◌-◌, false, true, get_or, not, refl, ap, sym, subst, arith, ◌∙◌}
use Rattle.vt_screen.specs.Cells.{row_at}
use Rattle.vt_screen.specs.Picture.{SoundRow}
use Rattle.vt_screen.specs.declared.cell.Row.{Row}
use Rattle.screen_rows.specs.SameRows.{same_row}
use Rattle.screen_rows.proofs.SameLemmas.{same_row_decides}
use Rattle.screen_print.proofs.RowLemmas.{row_read}
use Rattle.screen_print.proofs.still.is_changed.Goals as goal

self_same : (row : Row) → same_row row row ≡ true
self_same row = (same_row_decides row row).1 refl

pub same_row-requires : goal.same_row-requires
same_row-requires c = λ narrow. (
  subst (SoundRow false) (row_read c.args.rows.now c.args.line c.index-rows-line.result (omega arith) (omega arith)) (c.requires.there narrow c.args.line),
  subst (λ wide. SoundRow wide c.row.result.now) (c.requires.here narrow) c.row.ensures.sound,
)

pub returns-then-is_touched : goal.returns-then-is_touched
returns-then-is_touched c =
    let line = c.args.line in
    let before = c.args.rows.now in
    let after = c.args.screen.now.picture.rows in
    let kept = get_or before (line - 1) c.index-rows-line.result in
    ap not c.same_row.ensures
    ∙ ap (λ row. not (same_row kept row)) c.row.ensures.value
    ∙ sym (ap (λ row. not (same_row row (row_at after line))) (row_read before line c.index-rows-line.result (omega arith) (omega arith)))

pub returns-else-is_touched : goal.returns-else-is_touched
returns-else-is_touched c =
    let line = c.args.line in
    let before = row_at c.args.rows.now line in
    let same = c.requires.told line (sym c.is_touched.ensures ∙ c.if-is_touched.false) in
    c.if-is_touched.false ∙ sym (ap (λ row. not (same_row before row)) same ∙ ap not (self_same before))
