use Rattle.std.proofs.Common.{◌-◌, arith, ◌∙◌, inl, inr}
use Rattle.std.proofs.lemmas.Bool.{cases_eq}
use Rattle.std.proofs.lemmas.List.{length-set}
use Rattle.screen_rows.proofs.KeptLemmas.{number_here, number_there}
use Rattle.screen_rows.proofs.kept.take_order.Goals as goal

pub loop-line-preserved : goal.loop-line-preserved
loop-line-preserved c =
    let order = c.loop-line.order in
    let line = c.loop-line.line in
    let slot = c.place_of-slot.result in
    let kept = c.loop-line.invariant in
    record {
      whole = length-set order (line - 1) slot ∙ kept.whole;
      long = length-set c.loop-line.lines slot line ∙ kept.long;
      named = λ k low below. elim (cases_eq k line) [
        | inl e ↦ rw e (number_here order line slot (omega arith) (omega (arith, kept.whole)) ∙ c.place_of-slot.ensures.value)
        | inr ne ↦ number_there order line k slot (omega arith) low ne ∙ kept.named k low (omega arith)
      ];
      within = λ k low below. elim (cases_eq k line) [
        | inl e ↦ rw e (omega (arith, number_here order line slot (omega arith) (omega (arith, kept.whole)), c.place_of-slot.ensures.within))
        | inr ne ↦ omega (arith, number_there order line k slot (omega arith) low ne, kept.within k low (omega arith))
      ];
    }
