use Rattle.std.proofs.Common.{arith}
use Rattle.standings.proofs.SpeltLemmas.{spelt}
use Rattle.standings.proofs.line.spell.Goals as goal

pub returns : goal.returns
returns c = λ all.
    spelt c.args.chars.now c.loop-at.bytes c.loop-at.invariant.count
    (λ k lt. c.loop-at.invariant.small all k (omega (arith, lt, c.loop-at-test.false)))
    (λ k lt. c.loop-at.invariant.same all k (omega (arith, lt, c.loop-at-test.false)))
