use Rattle.std.proofs.Common.{◌+◌, ◌-◌, arith, false, inl, inr}
use Rattle.std.proofs.lemmas.Bool.{cases_lt}
use Rattle.standings.proofs.SurplusLemmas.{none_block}
use Rattle.standings.proofs.less.past_untold.Goals as goal

pub loop-at-preserved : goal.loop-at-preserved
loop-at-preserved c =
    let at = c.loop-at.at in
    record {
      low = omega (arith, c.loop-at.invariant.low);
      within = λ _. omega (arith, c.if-told-at-ge-PLACES.true);
      none = λ n low lt. elim (cases_lt n at) [
        | inl below ↦ c.loop-at.invariant.none n low below
        | inr high ↦ none_block c.args.told.now at (at + 16 - at) n false (c.some_told.ensures c.if-not-some_told.true) high (omega (arith, lt))
      ];
    }
