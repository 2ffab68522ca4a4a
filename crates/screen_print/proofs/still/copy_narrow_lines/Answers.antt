use Rattle.std.proofs.Common.{◌≡◌, ◌-◌, ◌∙◌, arith, false, get_or, inl, inr, subst, sym}
use Rattle.std.proofs.lemmas.Bool.{cases_eq}
use Rattle.std.proofs.lemmas.List.{get_or_default, length-set}
use Rattle.vt_screen.specs.Cells.{row_at}
use Rattle.vt_screen.specs.Picture.{SoundRow}
use Rattle.screen_print.proofs.StillLemmas.{copied_all, copied_more, differs_or_same, line_within}
use Rattle.screen_print.proofs.RowLemmas.{row_read, row_set_other, row_set_same, rows_by_line}
use Rattle.screen_print.proofs.still.copy_narrow_lines.Goals as goal

pub row-requires-clause-low : goal.row-requires-clause-low
row-requires-clause-low c = (line_within c.args.rows.now c.args.screen.now.picture.rows c.args.lines.now c.loop-line.line-index c.requires.lines c.loop-line-test.true).0

pub row-requires-clause-high : goal.row-requires-clause-high
row-requires-clause-high c =
    let within = line_within c.args.rows.now c.args.screen.now.picture.rows c.args.lines.now c.loop-line.line-index c.requires.lines c.loop-line-test.true in
    omega (arith, within.0, within.1)

pub overflow_sub-line : goal.overflow_sub-line
overflow_sub-line c = (line_within c.args.rows.now c.args.screen.now.picture.rows c.args.lines.now c.loop-line.line-index c.requires.lines c.loop-line-test.true).0

pub bounds-rows-line : goal.bounds-rows-line
bounds-rows-line c =
    let within = line_within c.args.rows.now c.args.screen.now.picture.rows c.args.lines.now c.loop-line.line-index c.requires.lines c.loop-line-test.true in
    omega (arith, within.0, within.1)

pub loop-line-init : goal.loop-line-init
loop-line-init c = record {
  whole = c.told-rows;
  sound = λ k low high. c.requires.there k;
  copied = λ k low high. differs_or_same c.args.rows.now c.args.screen.now.picture.rows c.args.lines.now k c.requires.lines low high;
}

pub copy_narrow-requires-clause-old : goal.copy_narrow-requires-clause-old
copy_narrow-requires-clause-old c =
    let line = get_or c.args.lines.now c.loop-line.line-index 0 in
    let within = line_within c.args.rows.now c.args.screen.now.picture.rows c.args.lines.now c.loop-line.line-index c.requires.lines c.loop-line-test.true in
    subst (SoundRow false) (row_read c.loop-line.rows line c.index-rows-line.result within.0 (omega (arith, within.1, c.loop-line.invariant.whole)))
    (c.loop-line.invariant.sound line within.0 (omega (arith, within.1)))

pub loop-line-preserved : goal.loop-line-preserved
loop-line-preserved c =
    let lines = c.args.lines.now in
    let i = c.loop-line.line-index in
    let line = get_or lines i 0 in
    let rows = c.loop-line.rows in
    let these = c.args.screen.now.picture.rows in
    let row = c.copy_narrow.new.row in
    let kept = c.loop-line.invariant in
    let within = line_within c.args.rows.now these lines i c.requires.lines c.loop-line-test.true in
    record {
      whole = omega (arith, length-set rows (line - 1) row, kept.whole);
      sound = λ k low high. elim (cases_eq k line) [
        | inl e ↦ rw e (subst (SoundRow false) (sym (row_set_same rows line row within.0 (omega (arith, within.1, kept.whole)) ∙ c.copy_narrow.ensures)) (subst (λ wide. SoundRow wide c.row.result.now) c.requires.here c.row.ensures.sound))
        | inr ne ↦ subst (SoundRow false) (sym (row_set_other rows line k row within.0 low ne)) (kept.sound k low high)
      ];
      copied = λ k low high. copied_more rows these lines i line k row c.loop-line-test.true (get_or_default lines i 0 line c.loop-line-test.true) within.0 (omega (arith, within.1, kept.whole)) low (c.copy_narrow.ensures ∙ c.row.ensures.value) (kept.copied k low high);
    }

pub returns : goal.returns
returns c =
    rows_by_line c.loop-line.rows c.args.screen.now.picture.rows c.loop-line.invariant.whole c.screens_are_sound.ensures.rows
    (λ line low high. copied_all c.args.lines.now c.loop-line.line-index line (omega (arith, c.loop-line-test.false)) (c.loop-line.invariant.copied line low high))
