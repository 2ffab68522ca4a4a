use Rattle.std.proofs.Common.{◌+◌, ◌-◌, arith, inl, inr}
use Rattle.std.proofs.lemmas.Bool.{cases_lt}
use Rattle.standings.proofs.SurplusLemmas.{none_block}
use Rattle.standings.proofs.surplus.spent_blocks.Goals as goal

pub loop-len-preserved : goal.loop-len-preserved
loop-len-preserved c =
    let len = c.loop-len.len in
    record {
      within = omega (arith, c.loop-len-test.true);
      none = λ k lt. elim (cases_lt k len) [
        | inl low ↦ c.loop-len.invariant.none k low
        | inr high ↦ none_block c.args.surplus.now len (len + 8 - len) k 0 (c.is_spent.ensures.none c.if-is_spent.true) high (omega (arith, lt))
      ];
    }
