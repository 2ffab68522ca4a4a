use Rattle.std.proofs.Common.{◌≡◌, ◌+◌, ◌∙◌, ap, arith, false, inl, inr, sym}
use Rattle.std.proofs.lemmas.Bool.{cases_lt}
use Rattle.std.proofs.lemmas.Bool.Decides.{nat_tests}
use Rattle.sheet.specs.Grid.{origin_of}
use Rattle.xterm_print.proofs.moved.have_moved.Goals as goal

pub loop-i-preserved : goal.loop-i-preserved
loop-i-preserved c = λ moved k low below.
    let before : c.loop-i.stayed ≡ false = grind (arith, nat_tests) in
    let here : c.origin.result ≡ c.args.from + c.loop-i.i + c.args.shift = grind (arith, nat_tests) in
    elim (cases_lt k (c.args.from + c.loop-i.i)) [
      | inl early ↦ c.loop-i.invariant before k low early
      | inr late ↦
          let same : k ≡ c.args.from + c.loop-i.i = omega arith in
          ap (origin_of c.args.screen.now.origins) same ∙ sym c.origin.ensures ∙ here ∙ ap (λ n. n + c.args.shift) (sym same)
    ]
