use Rattle.std.proofs.Common.{arith, inl, inr, nat_eq}
use Rattle.std.specs.List.{starts_with}
use Rattle.std.proofs.lemmas.Bool.{cases_Bool}
use Rattle.standings.proofs.LeftLemmas.{front_fits}
use Rattle.standings.proofs.surplus.ends_apart.Goals as goal

pub returns-then-len-row : goal.returns-then-len-row
returns-then-len-row c = λ _.
    let row = c.args.row.now in
    let left = c.args.left.now in
    elim (cases_Bool (starts_with nat_eq row left)) [
      | inr f ↦ f
      | inl t ↦ absurd (omega (arith, front_fits row left t, c.if-len-row.true))
    ]
