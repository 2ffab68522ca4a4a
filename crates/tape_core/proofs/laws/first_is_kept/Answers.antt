use Rattle.tape_core.proofs.FirstLemmas.{first_kept}
use Rattle.tape_core.proofs.laws.first_is_kept.Goals as goal

pub returns : goal.returns
returns c = first_kept
