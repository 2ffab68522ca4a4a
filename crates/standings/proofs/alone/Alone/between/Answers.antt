use Rattle.std.proofs.Common.{◌≡◌, ◌+◌, ◌-◌, ◌++◌, ◌∙◌, ap, arith, drop, subst, sym, take}
use Rattle.std.proofs.lemmas.List.{take_rest}
use Rattle.standings.specs.Less.{PairOff}
use Rattle.standings.specs.Standing.{count_left}
use Rattle.standings.proofs.PairLemmas.{pair_alone, pair_last, pair_next}
use Rattle.standings.proofs.alone.Alone.between.Goals as goal

pub loop-there-init : goal.loop-there-init
loop-there-init c = record {
  within = omega arith;
  there = omega arith;
  pairs = λ lags. λ left. omega (
    arith,
    ap (λ l. count_left c.args.one.now l left) c.new.ensures.items,
    ap (λ l. count_left c.args.other.now l left) c.new-2.ensures.items,
  );
}

pub loop-there-preserved : goal.loop-there-preserved
loop-there-preserved c =
    let one = c.args.one.now in
    let other = c.args.other.now in
    let places = c.args.places.now in
    let others = c.args.others.now in
    let from = c.loop-there.at in
    let at = c.next_pair-pair.result.at in
    let to = at + c.next_pair-pair.result.count in
    let there = c.loop-there.there in
    let seen = there + c.next_pair-pair.result.count in
    let end = c.next_pair-pair.result.end in
    let alone = c.loop-there.alone.one.items in
    let alones = c.loop-there.alone.other.items in
    let went : c.push_some.new.places.items ≡ alone ++ take (at - from) (drop from places) = c.in_ok-push_some.ensures in
    let come : c.push_some-in-loop-there.new.places.items ≡ alones ++ take (end - seen) (drop seen others) = c.in_ok-push_some-2.ensures in
    record {
      within = c.next_pair-pair.ensures.within;
      there = c.next_pair-pair.ensures.there;
      pairs = λ lags. subst (λ l. PairOff one (take to places) other (take end others) l c.push_some-in-loop-there.new.places.items) (sym went)
          (subst (PairOff one (take to places) other (take end others) (alone ++ take (at - from) (drop from places))) (sym come)
          (pair_alone one other (take to places) others seen end (alone ++ take (at - from) (drop from places)) alones c.next_pair-pair.ensures.order
          (pair_next one other places others from at to there seen alone alones c.next_pair-pair.ensures.low (c.next_pair-pair.ensures.pairs lags)
          (c.loop-there.invariant.pairs lags))));
    }

pub returns : goal.returns
returns c = λ lags.
    let one = c.args.one.now in
    let other = c.args.other.now in
    let places = c.args.places.now in
    let others = c.args.others.now in
    let went : c.extend_from_slice.new.self.items ≡ c.loop-there.alone.one.items ++ drop c.loop-there.at places =
    c.in_ok-extend_from_slice.ensures.items
    ∙ ap (λ l. c.loop-there.alone.one.items ++ l) (take_rest places c.loop-there.at) in
    subst (λ l. PairOff one places other others l c.loop-there.alone.other.items) (sym went)
    (pair_last one other places others c.loop-there.at c.loop-there.there c.loop-there.alone.one.items c.loop-there.alone.other.items
    (omega (arith, c.loop-there-test.false)) (c.loop-there.invariant.pairs lags))
