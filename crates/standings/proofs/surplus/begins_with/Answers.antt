use Rattle.std.proofs.Common.{arith, inl, inr, nat_eq, sym}
use Rattle.std.specs.List.{starts_with}
use Rattle.std.proofs.lemmas.Bool.{cases_Bool}
use Rattle.standings.proofs.FrontLemmas.{fits_text}
use Rattle.standings.proofs.surplus.begins_with.Goals as goal

pub returns-then-last-characters : goal.returns-then-last-characters
returns-then-last-characters c =
    let characters = c.args.characters.now in
    let front = c.args.front.now in
    elim (cases_Bool (starts_with nat_eq characters front)) [
      | inr f ↦ sym f
      | inl t ↦ absurd (omega (arith, fits_text characters front t, c.if-last-characters.true, c.requires))
    ]
