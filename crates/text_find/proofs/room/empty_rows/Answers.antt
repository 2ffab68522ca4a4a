use Rattle.std.proofs.Common.{◌<◌, ◌∙◌, arith, get_or-set_other}
use Rattle.std.proofs.lemmas.List.{length-set}
use Rattle.standings.specs.Rows.{empty_row}
use Rattle.standings.proofs.SpanLemmas.{stays_all}
use Rattle.text_find.proofs.room.empty_rows.Goals as goal

pub loop-above-init : goal.loop-above-init
loop-above-init c = stays_all c.args.rows.now.items c.args.span

pub loop-above-preserved : goal.loop-above-preserved
loop-above-preserved c =
    let kept = c.loop-above.invariant in
    let rows = c.loop-above.rows.items in
    let at = c.loop-above.above in
    let row = c.restart.new.self in
    let within : at < c.args.span.to = omega (arith, c.loop-above-test.true, c.min-above-end.ensures) in
    record {
      count = length-set rows at row ∙ kept.count;
      above = λ k lt. get_or-set_other rows at k row empty_row (omega (arith, lt, c.loop-above.auto.above)) ∙ kept.above k lt;
      below = λ k ge. get_or-set_other rows at k row empty_row (omega (arith, ge, within)) ∙ kept.below k ge;
    }
