use Rattle.std.proofs.Common.{arith, get_or, subst, sym}
use Rattle.std.proofs.lemmas.List.{get_or_default}
use Rattle.screen_print.specs.Quiet.{PlacesStay}
use Rattle.screen_print.specs.Stills.{still_of}
use Rattle.screen_print.proofs.QuietLemmas.{row_places}
use Rattle.screen_print.proofs.StillLemmas.{copied_all, differs_or_same, in_map, line_within, listed_more}
use Rattle.screen_print.proofs.quiet.lines_stay.Goals as goal

pub line_stays-requires-clause-low : goal.line_stays-requires-clause-low
line_stays-requires-clause-low c = (line_within c.args.before.now.rows c.args.after.now.console.picture.rows c.args.lines.now c.loop-line.line-index c.requires.changed c.loop-line-test.true).0

pub line_stays-requires-clause-high : goal.line_stays-requires-clause-high
line_stays-requires-clause-high c =
    let within = line_within c.args.before.now.rows c.args.after.now.console.picture.rows c.args.lines.now c.loop-line.line-index c.requires.changed c.loop-line-test.true in
    omega (arith, within.0, within.1)

pub loop-line-init : goal.loop-line-init
loop-line-init c = λ k low high.
    let after = still_of c.args.after.now.console in
    in_map c.args.lines.now k (c.requires.others k low high) (differs_or_same c.args.before.now.rows after.rows c.args.lines.now k c.requires.changed low high)

pub loop-line-preserved : goal.loop-line-preserved
loop-line-preserved c = λ k low high.
    let lines = c.args.lines.now in
    let i = c.loop-line.line-index in
    let line = get_or lines i 0 in
    let after = still_of c.args.after.now.console in
    listed_more lines i line k c.loop-line-test.true (get_or_default lines i 0 line c.loop-line-test.true)
    (λ e. subst (PlacesStay c.args.text.now c.args.before.now after) (sym e)
    (row_places c.args.text.now c.args.before.now after line (c.line_stays.ensures c.if-not-line_stays.false)))
    (c.loop-line.invariant k low high)

pub returns : goal.returns
returns c = λ told line low high.
    copied_all c.args.lines.now c.loop-line.line-index line (omega (arith, c.loop-line-test.false)) (c.loop-line.invariant line low high)
