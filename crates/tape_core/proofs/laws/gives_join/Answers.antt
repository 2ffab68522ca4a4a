use Rattle.tape_core.proofs.GaveLemmas.{gave_join, gave_none}
use Rattle.tape_core.proofs.laws.gives_join.Goals as goal

pub returns-clause-nothing : goal.returns-clause-nothing
returns-clause-nothing g c = λ a. gave_none g.W.Write.contents a

pub returns-clause-both : goal.returns-clause-both
returns-clause-both g c = λ a b d x y second first. gave_join g.W.Write.contents a b d x y first second
