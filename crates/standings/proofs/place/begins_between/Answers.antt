use Rattle.std.proofs.Common.{◌≡◌, ◌∙◌, ap, arith, drop, inl, inr, sym}
use Rattle.std.proofs.lemmas.Bool.{cases_lt}
use Rattle.standings.specs.Standing.{begins, line_text}
use Rattle.standings.proofs.place.begins_between.Goals as goal

pub loop-before-preserved : goal.loop-before-preserved
loop-before-preserved c = λ k low lt.
    let rows = c.args.rows.now in
    let text = c.args.text.now in
    let before = c.loop-before.before in
    elim (cases_lt k before) [
      | inl early ↦ c.loop-before.invariant k low early
      | inr late ↦
          let here : before ≡ k = omega arith in
          ap (begins text (line_text (drop c.args.above rows))) (sym here)
          ∙ sym c.begins.ensures ∙ c.if-begins.false
    ]
