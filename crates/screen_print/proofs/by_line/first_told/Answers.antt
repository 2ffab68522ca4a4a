use Rattle.std.proofs.Common.{◌≡◌, ◌∙◌, ◌-◌, ℕ, Bool, ap, arith, inl, inr, sym, take}
use Rattle.std.proofs.lemmas.Bool.{and_parts, cases_lt}
use Rattle.screen_print.specs.ByLine.{begins_on, row_on, stands_at_no_end}
use Rattle.screen_print.proofs.FrontLemmas.{not_both}
use Rattle.screen_print.proofs.by_line.first_told.Goals as goal

pub returns-then-is_told-clause-begins : goal.returns-then-is_told-clause-begins
returns-then-is_told-clause-begins c = λ within.
    (and_parts _ _ (sym c.is_told.ensures ∙ c.if-is_told.true)).0

pub returns-then-is_told-clause-alone : goal.returns-then-is_told-clause-alone
returns-then-is_told-clause-alone c = λ within.
    (and_parts _ _ (sym c.is_told.ensures ∙ c.if-is_told.true)).1

pub loop-column-preserved : goal.loop-column-preserved
loop-column-preserved c = λ column low high begins.
    let text = c.args.sought.now.text.now in
    let still = c.args.still.now in
    let line = c.args.line in
    let here = c.loop-column.column in
    let end : ℕ → Bool = λ k. stands_at_no_end text c.args.ends (take (k - 1) (row_on still line)) in
    elim (cases_lt column here) [
      | inl lt ↦ c.loop-column.invariant column low lt begins
      | inr ge ↦
          let at : here ≡ column = omega arith in
          ap end (sym at) ∙ not_both (begins_on text still line here) (end here) (sym c.is_told.ensures ∙ c.if-is_told.false) (ap (begins_on text still line) at ∙ begins)
    ]
