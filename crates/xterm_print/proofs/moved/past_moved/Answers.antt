use Rattle.std.proofs.Common.{arith, inl, inr}
use Rattle.std.proofs.lemmas.Bool.{cases_lt}
use Rattle.xterm_print.proofs.moved.past_moved.Goals as goal

pub loop-end-preserved : goal.loop-end-preserved
loop-end-preserved c =
    let kept = c.loop-end.invariant in
    record {
      some = omega (arith, kept.some);
      within = omega (arith, kept.within, c.loop-end-test.true);
      moved = λ k low lt. elim (cases_lt k c.loop-end.end) [
        | inl below ↦ kept.moved k low below
        | inr high ↦ c.have_moved.ensures c.if-have_moved.true k high lt
      ];
    }
