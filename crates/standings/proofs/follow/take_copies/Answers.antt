use Rattle.std.proofs.Common.{◌∙◌, arith, inl, inr, sym}
use Rattle.std.proofs.lemmas.Bool.{cases_lt}
use Rattle.standings.proofs.SpanLemmas.{same_rows}
use Rattle.standings.proofs.follow.take_copies.Goals as goal

pub returns : goal.returns
returns c = λ stays.
    let taken = c.loop-above.invariant in
    same_rows c.args.others.now c.loop-above.rows (taken.count ∙ sym stays.count) (λ k lt. elim (cases_lt k c.args.from) [
      | inl low ↦ taken.above k low ∙ sym (stays.above k low)
      | inr from ↦ elim (cases_lt k c.loop-above.above) [
        | inl within ↦ taken.taken k from within
        | inr below ↦ taken.below k below ∙ sym (stays.below k (omega (arith, below, c.loop-above-test.false)))
      ]
    ])
