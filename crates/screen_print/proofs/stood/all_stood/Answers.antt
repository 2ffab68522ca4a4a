use Rattle.std.proofs.Common.{◌≡◌, arith, inl, inr, subst, sym}
use Rattle.std.proofs.lemmas.Bool.{cases_lt}
use Rattle.screen_print.specs.ByLine.{NonePasses, stands_at_no_end, stands_on_neither}
use Rattle.screen_print.proofs.stood.all_stood.Goals as goal

pub loop-line-preserved : goal.loop-line-preserved
loop-line-preserved c = λ line low high.
    let text = c.args.sought.now.text.now in
    let ends = c.in-Some.ends in
    let None = NonePasses text c.args.pair.now.one.now (stands_on_neither text ends.now.first.now ends.now.last.now) in
    elim (cases_lt line c.loop-line.line) [
      | inl lt ↦ c.loop-line.invariant line low lt
      | inr ge ↦
          let at : c.loop-line.line ≡ line = omega arith in
          subst None at (c.has_stood.ensures c.if-not-has_stood.false)
    ]

pub returns : goal.returns
returns c = λ _ line low high.
    let text = c.args.sought.now.text.now in
    subst (λ ends. NonePasses text c.args.pair.now.one.now (stands_at_no_end text ends) line) (sym c.in-Some.is)
    (c.loop-line.invariant line low (omega arith))
