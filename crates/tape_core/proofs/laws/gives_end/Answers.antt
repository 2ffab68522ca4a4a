use Rattle.tape_core.proofs.GaveLemmas.{gave_early, gave_no_more, gave_took}
use Rattle.tape_core.proofs.laws.gives_end.Goals as goal

pub returns-clause-sound : goal.returns-clause-sound
returns-clause-sound g c = λ a b x sound gave. gave_took g.W.Write.contents a b x sound gave

pub returns-clause-early : goal.returns-clause-early
returns-clause-early g c = λ a b text x y failed cut is gave. gave_early g.W.Write.contents a b text x y failed cut is gave

pub returns-clause-failed : goal.returns-clause-failed
returns-clause-failed g c = λ a b text x y cut is gave. gave_no_more g.W.Write.contents a b text x y cut is gave
