use Rattle.tape_core.proofs.DueLemmas.{due_below}
use Rattle.tape_core.proofs.laws.due_is_below_the_count.Goals as goal

pub returns : goal.returns
returns c = λ chunks t i lt. due_below chunks t i lt
