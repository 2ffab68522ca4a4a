use Rattle.std.proofs.Common.{◌≡◌, ◌+◌, ◌<◌, ℕ, length, inl, inr, sym, ap, ◌∙◌, arith}
use Rattle.std.proofs.lemmas.Bool.{cases_lt}
use Rattle.std.proofs.lemmas.Bool.Decides.{nat_tests}
use Rattle.sheet.proofs.Marked.{mark_read, next_here, next_nowhere}
use Rattle.sheet.proofs.sheet.marked.next_slowly.Goals as goal

pub loop-at-preserved : goal.loop-at-preserved
loop-at-preserved c = λ k low high.
    elim (cases_lt k c.loop-at.at) [
      | inl before ↦ c.loop-at.invariant k low before
      | inr here ↦
          let same : k ≡ c.loop-at.at = omega arith in
          let read = mark_read c.args.origins.now k (omega arith) in
          grind (arith, nat_tests)
    ]

pub returns-then-origins-at : goal.returns-then-origins-at
returns-then-origins-at c =
    next_here c.args.origins.now c.args.from c.loop-at.at (omega arith) (omega arith) c.loop-at.invariant (grind (arith, nat_tests))

pub returns : goal.returns
returns c =
    next_nowhere c.args.origins.now c.args.from (omega arith) (λ k low high. c.loop-at.invariant k low (omega arith))
