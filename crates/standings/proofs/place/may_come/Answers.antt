use Rattle.std.proofs.Common.{arith}
use Rattle.standings.proofs.SpanLemmas.{nothing_came}
use Rattle.standings.proofs.place.may_come.Goals as goal

pub returns : goal.returns
returns c = λ _ before stays was.
    nothing_came c.args.text.now c.args.span c.reach_start-start.result before c.args.rows.now stays c.reach_start-start.ensures.within c.reach_start-start.ensures.ends
    (λ k low within lt. c.loop-above.invariant k low (omega (arith, c.loop-above-test.false, c.min-above-end.ensures))) was
