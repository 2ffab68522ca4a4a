use Rattle.std.proofs.Common.{◌≡◌, ◌+◌, ◌-◌, ◌<◌, ℕ, get_or, inl, inr, sym, ap, ◌∙◌, arith}
use Rattle.std.proofs.lemmas.Bool.{cases_lt}
use Rattle.std.proofs.lemmas.Bool.Decides.{nat_tests}
use Rattle.sheet.proofs.Tables.{nth_next}
use Rattle.sheet.proofs.sheet.is_any_touched.Goals as goal

pub loop-i-preserved : goal.loop-i-preserved
loop-i-preserved c = λ none line low high.
    let read = nth_next 0 c.args.origins.now c.loop-i.i in
    let was = c.loop-i.invariant in
    elim (cases_lt line (c.loop-i.i + 1)) [
      | inl before ↦ was (grind (arith, nat_tests)) line low (omega arith)
      | inr here ↦ (let same : line ≡ c.loop-i.i + 1 = omega arith in grind (arith, nat_tests))
    ]
