use Rattle.std.proofs.Common.{◌∙◌, arith, inl, inr, sym}
use Rattle.std.proofs.lemmas.Bool.{cases_lt}
use Rattle.standings.proofs.SpanLemmas.{same_rows}
use Rattle.standings.proofs.left.copy_rows.Goals as goal

pub returns : goal.returns
returns c = λ stays.
    let kept = c.loop-above.invariant in
    same_rows c.args.others.now c.loop-above.rows.items (kept.count ∙ sym stays.count) (λ k lt. elim (cases_lt k c.args.span.from) [
      | inl low ↦ kept.above k low ∙ sym (stays.above k low)
      | inr from ↦ elim (cases_lt k c.loop-above.above) [
        | inl within ↦ kept.copied k from within
        | inr below ↦
            kept.below k below
            ∙ sym (stays.below k (omega (arith, stays.count, c.loop-above-test.false, c.min-above-end.ensures, c.min.ensures, c.len.ensures, c.args.rows.now.ok.0)))
      ]
    ])
