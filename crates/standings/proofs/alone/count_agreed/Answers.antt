use Rattle.std.proofs.Common.{◌≡◌, ◌+◌, [], arith, subst, sym, take}
use Rattle.standings.specs.Less.{PairOff}
use Rattle.standings.specs.Standing.{left_of, place_at}
use Rattle.standings.proofs.PairLemmas.{pair_more}
use Rattle.standings.proofs.alone.count_agreed.Goals as goal

pub loop-count-preserved : goal.loop-count-preserved
loop-count-preserved c =
    let one = c.args.one.now in
    let other = c.args.other.now in
    let places = c.args.places.now in
    let others = c.args.others.now in
    let k = c.loop-count.count in
    let from : 0 + k ≡ k = omega arith in
    let next : 0 + (k + 1) ≡ k + 1 = omega arith in
    let same : left_of one (place_at places (0 + k)) ≡ left_of other (place_at others (0 + k)) =
    subst (λ j. left_of one (place_at places j) ≡ left_of other (place_at others j)) (sym from) (c.are_same.ensures.same c.if-not-are_same.false) in
    record {
      few = omega (arith, c.loop-count-test.true);
      agree = c.are_same.ensures.agree;
      pairs = subst (λ j. PairOff one (take j places) other (take j others) [] []) next
          (pair_more one other places others 0 0 k [] [] (omega (arith, c.loop-count-test.true)) (omega (arith, c.loop-count-test.true)) same
          (subst (λ j. PairOff one (take j places) other (take j others) [] []) (sym from) c.loop-count.invariant.pairs));
    }
