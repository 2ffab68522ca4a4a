use Rattle.std.proofs.Common.{◌-◌, ◌<◌, arith, subst}
use Rattle.std.specs.List.{All}
use Rattle.std.proofs.lemmas.List.{take_all}
use Rattle.std.proofs.lemmas.List.Elements.{All-more}
use Rattle.screen_print.specs.Quiet.{LineStays}
use Rattle.screen_print.specs.Stills.{still_of}
use Rattle.screen_print.proofs.quiet.rows_above_stand_alone.Goals as goal

pub loop-line-preserved : goal.loop-line-preserved
loop-line-preserved c =
    let after = still_of c.args.after.now.console in
    All-more (λ line. 1 < line → LineStays c.args.text.now after after (line - 1)) c.args.lines.now c.loop-line.line-index 0 c.loop-line-test.true
    c.loop-line.invariant (c.row_above_stands_alone.ensures c.if-not-row_above_stands_alone.false)

pub returns : goal.returns
returns c = λ told.
    let after = still_of c.args.after.now.console in
    subst (All (λ line. 1 < line → LineStays c.args.text.now after after (line - 1)))
    (take_all c.loop-line.line-index c.args.lines.now (omega arith)) c.loop-line.invariant
