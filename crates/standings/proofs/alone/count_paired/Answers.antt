use Rattle.std.proofs.Common.{◌≤◌, ◌+◌, ◌-◌, [], ap, arith, drop, length, subst, take}
use Rattle.std.proofs.lemmas.List.{length-drop, take_rest}
use Rattle.standings.specs.Less.{PairOff}
use Rattle.standings.proofs.PairLemmas.{pair_behind, pair_within}
use Rattle.standings.proofs.alone.count_paired.Goals as goal

pub loop-count-preserved : goal.loop-count-preserved
loop-count-preserved c =
    let one = c.args.one.now in
    let other = c.args.other.now in
    let places = c.args.places.now in
    let others = c.args.others.now in
    let n = c.loop-count.count in
    let more = c.count_in_row-more.result in
    let found = c.count_in_row-more.ensures in
    let rest = take_rest places n in
    let low : n + more ≤ length places = omega (arith, found.within, ap length rest, length-drop n places, c.loop-count-test.true) in
    let within : n + more ≤ length others = omega (arith, found.there, ap length (take_rest others n), length-drop n others, c.loop-count-test.true) in
    record {
      few = omega (arith, low, within);
      pairs = pair_within one other (take (n + more) places) (take (n + more) others) (take n places) (take n others) [] []
          (pair_behind one other places others n n more (length others) low within
          (subst (λ l. PairOff one (take more l) other (take more (take (length others - n) (drop n others))) [] []) rest found.pairs))
          c.loop-count.invariant.pairs;
    }
