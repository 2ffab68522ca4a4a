use Rattle.tape_cut.proofs.CutLemmas.{cut_unseen}
use Rattle.tape_cut.proofs.laws.a_cut_is_unseen.Goals as goal

pub returns : goal.returns
returns g c = cut_unseen g.T.Plays g.S.StateText.text c.makes_any_this.ensures c.laws.ensures.parts
