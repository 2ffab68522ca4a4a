use Rattle.std.proofs.Common.{◌<◌, arith, inl, inr, length, sym, ◌∙◌}
use Rattle.std.proofs.lemmas.Bool.{and_cases}
use Rattle.xterm_print.proofs.SameLemmas.{agree_more, both, rows_differ}
use Rattle.xterm_print.proofs.same.agree_together.Goals as goal

pub loop-at-preserved : goal.loop-at-preserved
loop-at-preserved c =
    let one = c.args.one.now in
    let other = c.args.other.now in
    let at = c.loop-at.at in
    let below : at < length one = omega (arith, c.loop-at-test.true, c.requires.within) in
    let below' : at < length other = omega (arith, below, c.requires.long) in
    let a = c.index-one-at.result in
    let b = c.index-other-at.result in
    let here = c.same_cell-same.ensures in
    record {
      agree = λ t.
          let all = both c.loop-at.same c.same_cell-same.result t in
          agree_more one other c.args.from at a b below below' (c.loop-at.invariant.agree all.0) c.index-one-at.is c.index-other-at.is (here.equal all.1);
      differ = λ f. elim (and_cases c.loop-at.same c.same_cell-same.result f) [
        | inl before ↦ c.loop-at.invariant.differ before
        | inr this ↦ rows_differ one other at a b c.requires.long below c.index-one-at.is c.index-other-at.is (sym here.same ∙ this)
      ];
    }
