use Rattle.std.proofs.Common.{◌≡◌, ◌∙◌, ℕ, [], ◌-◌, ap, append-nil, arith, drop, false, inl, inr, length, nat_eq, subst, sym, take}
use Rattle.std.specs.List.{starts_with}
use Rattle.std.proofs.lemmas.Bool.{cases_lt}
use Rattle.std.proofs.lemmas.List.{take_rest}
use Rattle.screen_rows.specs.RowText.{characters}
use Rattle.screen_print.proofs.key.begins_with_rest.Goals as goal

pub loop-at-preserved : goal.loop-at-preserved
loop-at-preserved c = λ n low high.
    let chars = c.args.chars.now in
    let row = characters c.args.cells.now in
    let at = c.loop-at.at in
    let rest = take (length chars - at) (drop at chars) in
    elim (cases_lt n at) [
      | inl lt ↦ c.loop-at.invariant n low lt
      | inr past ↦
          let is : at ≡ n = omega arith in
          subst (λ (k : ℕ). starts_with nat_eq row (drop k chars) ≡ false) is
          (subst (λ w. starts_with nat_eq row w ≡ false) (take_rest chars at)
          (ap (λ l. starts_with nat_eq l rest) (sym (append-nil row)) ∙ c.agrees.ensures.no c.if-agrees.false []))
    ]
