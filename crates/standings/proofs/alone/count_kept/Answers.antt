use Rattle.std.proofs.Common.{◌+◌, ap, arith, sym, take}
use Rattle.standings.specs.Rows.{Row}
use Rattle.standings.specs.Standing.{place_at}
use Rattle.standings.proofs.PairLemmas.{pair_more, pair_none, same_place}
use Rattle.standings.proofs.alone.count_kept.Goals as goal

pub loop-count-init : goal.loop-count-init
loop-count-init c = record {
  few = omega arith;
  pairs = λ lags. pair_none c.args.one.now c.args.other.now c.args.places.now c.args.others.now c.args.at c.args.there;
}

pub loop-count-preserved : goal.loop-count-preserved
loop-count-preserved c =
    let one = c.args.one.now in
    let other = c.args.other.now in
    let places = c.args.places.now in
    let others = c.args.others.now in
    record {
      few = omega (arith, c.loop-count-test.true);
      pairs = λ lags. pair_more one other places others c.args.at c.args.there c.loop-count.count (take c.args.at places) (take c.args.there others) (omega arith) (omega arith)
          (same_place one other (place_at places (c.args.at + c.loop-count.count)) (place_at others (c.args.there + c.loop-count.count))
          (ap (λ (r : Row). r.characters) (sym (c.stays.ensures.row c.if-stays.true one other (omega arith) lags))) (c.stays.ensures.before c.if-stays.true))
          (c.loop-count.invariant.pairs lags);
    }
