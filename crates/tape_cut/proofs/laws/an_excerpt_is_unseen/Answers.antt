use Rattle.tape_cut.proofs.ExcerptLemmas.{excerpt_unseen}
use Rattle.tape_cut.proofs.laws.an_excerpt_is_unseen.Goals as goal

pub returns : goal.returns
returns g c = excerpt_unseen g.T.Plays g.S.StateText.text c.makes_any_this.ensures c.laws.ensures.parts c.laws.ensures.nothing
