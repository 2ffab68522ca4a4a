use Rattle.std.proofs.Common.{◌-◌, ap, ap₂, arith, drop, subst, sym, take}
use Rattle.std.proofs.lemmas.Result.{IfOk-weaker}
use Rattle.standings.specs.Lag.{Lags}
use Rattle.standings.specs.Less.{PairOff}
use Rattle.standings.specs.Standing.{count_left}
use Rattle.standings.specs.declared.alone.Alone.{Alone}
use Rattle.standings.proofs.PairLemmas.{pair_within}
use Rattle.standings.proofs.alone.Alone.of.Goals as goal

pub returns : goal.returns
returns c = λ text many was came lags.
    let one = c.args.one.now in
    let other = c.args.other.now in
    let cut = c.of-cut.result in
    let n = cut.to - cut.from in
    let m = cut.there - cut.from in
    let rows = c.as_slice.ensures.value in
    let places = c.as_slice-2.ensures.value in
    let rows' = c.as_slice-3.ensures.value in
    let places' = c.as_slice-4.ensures.value in
    let pairs = c.of-cut.ensures.others text many was came lags in
    IfOk-weaker c.between.result
    (λ (alone : Alone). PairOff c.as_slice.result.now (take n (drop cut.from c.as_slice-2.result.now)) c.as_slice-3.result.now (take m (drop cut.from c.as_slice-4.result.now)) alone.one.items alone.other.items)
    (λ (alone : Alone). PairOff one.rows.items one.places.items other.rows.items other.places.items alone.one.items alone.other.items)
    (λ alone within. pair_within one.rows.items other.rows.items one.places.items other.places.items (take n (drop cut.from one.places.items)) (take m (drop cut.from other.places.items))
    alone.one.items alone.other.items pairs (λ left. omega (
      arith,
      within left,
      ap₂ (λ r l. count_left r (take n (drop cut.from l)) left) rows places,
      ap₂ (λ r l. count_left r (take m (drop cut.from l)) left) rows' places',
      ap (λ r. count_left r alone.one.items left) rows,
      ap (λ r. count_left r alone.other.items left) rows',
    )))
    (c.between.ensures (subst (λ r. Lags c.args.lag r c.as_slice-3.result.now) (sym rows) (subst (Lags c.args.lag one.rows.items) (sym rows') lags)))
