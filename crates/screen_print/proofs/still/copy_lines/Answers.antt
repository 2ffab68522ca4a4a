use Rattle.std.proofs.Common.{◌≡◌, ◌-◌, get_or, arith}
use Rattle.std.proofs.lemmas.List.{get_or_default, length-set}
use Rattle.vt_screen.specs.Cells.{row_at}
use Rattle.screen_print.proofs.StillLemmas.{copied_all, copied_more, differs_or_same, line_within}
use Rattle.screen_print.proofs.RowLemmas.{rows_by_line}
use Rattle.screen_print.proofs.still.copy_lines.Goals as goal

pub row-requires-clause-low : goal.row-requires-clause-low
row-requires-clause-low c = (line_within c.args.rows.now c.args.screen.now.picture.rows c.args.lines.now c.loop-line.line-index c.requires c.loop-line-test.true).0

pub row-requires-clause-high : goal.row-requires-clause-high
row-requires-clause-high c =
    let within = line_within c.args.rows.now c.args.screen.now.picture.rows c.args.lines.now c.loop-line.line-index c.requires c.loop-line-test.true in
    omega (arith, within.0, within.1)

pub overflow_sub-line : goal.overflow_sub-line
overflow_sub-line c = (line_within c.args.rows.now c.args.screen.now.picture.rows c.args.lines.now c.loop-line.line-index c.requires c.loop-line-test.true).0

pub bounds-rows-line : goal.bounds-rows-line
bounds-rows-line c =
    let within = line_within c.args.rows.now c.args.screen.now.picture.rows c.args.lines.now c.loop-line.line-index c.requires c.loop-line-test.true in
    omega (arith, within.0, within.1)

pub listed : goal.listed
listed c =
    let within = line_within c.args.rows.now c.args.screen.now.picture.rows c.args.lines.now c.loop-line.line-index c.requires c.loop-line-test.true in
    omega (arith, within.0, within.1, c.type_inv.rows)

pub loop-line-init : goal.loop-line-init
loop-line-init c = record {
  whole = c.told-rows;
  copied = λ k low high. differs_or_same c.args.rows.now c.args.screen.now.picture.rows c.args.lines.now k c.requires low high;
}

pub loop-line-preserved : goal.loop-line-preserved
loop-line-preserved c =
    let lines = c.args.lines.now in
    let i = c.loop-line.line-index in
    let line = get_or lines i 0 in
    let rows = c.loop-line.rows in
    let these = c.args.screen.now.picture.rows in
    let row = c.row.result.now in
    let kept = c.loop-line.invariant in
    let within = line_within c.args.rows.now these lines i c.requires c.loop-line-test.true in
    record {
      whole = omega (arith, length-set rows (line - 1) row, kept.whole);
      copied = λ k low high. copied_more rows these lines i line k row c.loop-line-test.true (get_or_default lines i 0 line c.loop-line-test.true) within.0 (omega (arith, within.1, kept.whole)) low c.row.ensures.value (kept.copied k low high);
    }

pub returns : goal.returns
returns c =
    rows_by_line c.loop-line.rows c.args.screen.now.picture.rows c.loop-line.invariant.whole c.screens_are_sound.ensures.rows
    (λ line low high. copied_all c.args.lines.now c.loop-line.line-index line (omega (arith, c.loop-line-test.false)) (c.loop-line.invariant.copied line low high))
