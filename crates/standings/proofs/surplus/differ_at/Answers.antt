use Rattle.std.proofs.Common.{◌∙◌, ap, inl, inr, nat_eq, not, sym}
use Rattle.std.specs.List.{starts_with}
use Rattle.std.proofs.lemmas.Bool.{cases_Bool, eq-eqb, false≢true}
use Rattle.std.proofs.lemmas.List.{get_or_read}
use Rattle.standings.proofs.FrontLemmas.{has_text}
use Rattle.standings.proofs.surplus.differ_at.Goals as goal

pub returns : goal.returns
returns c = λ told.
    let characters = c.args.characters.now in
    let front = c.args.front.now in
    let at = c.args.at in
    elim (cases_Bool (starts_with nat_eq characters front)) [
      | inr f ↦ f
      | inl t ↦
          let same = get_or_read characters at c.index-characters-at.result c.requires.characters c.index-characters-at.is 0
          ∙ has_text characters front at t c.requires.front ∙ sym (get_or_read front at c.index-front-at.result c.requires.front c.index-front-at.is 0) in
          absurd (false≢true (sym (ap not (eq-eqb c.index-characters-at.result c.index-front-at.result same)) ∙ told))
    ]
