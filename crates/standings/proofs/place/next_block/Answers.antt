use Rattle.std.proofs.Common.{◌+◌, ◌-◌, arith, drop, length}
use Rattle.std.proofs.lemmas.List.{length-drop, length-take}
use Rattle.standings.proofs.SpanLemmas.{none_further}
use Rattle.standings.proofs.place.next_block.Goals as goal

pub loop-at-preserved : goal.loop-at-preserved
loop-at-preserved c =
    let characters = c.args.characters.now in
    let at = c.loop-at.at in
    let count = at + 16 + 1 - at in
    record {
      low = omega arith;
      within = omega arith;
      passed = none_further characters c.args.text.now c.args.from at count 16 (omega arith) (omega arith) c.loop-at.invariant.passed
          (λ k lt. c.has_front_early.ensures c.if-has_front_early.false k (omega (arith, length-take count (drop at characters), length-drop at characters)));
    }

pub returns-else-has_front-clause-passed : goal.returns-else-has_front-clause-passed
returns-else-has_front-clause-passed c = λ before low high.
    let characters = c.args.characters.now in
    let at = c.loop-at.at in
    let count = length characters - at in
    none_further characters c.args.text.now c.args.from at count count (omega arith) (omega arith) c.loop-at.invariant.passed
    (λ k lt. c.has_front.ensures c.if-has_front.false k (omega (arith, length-take count (drop at characters), length-drop at characters))) before low (omega arith)
