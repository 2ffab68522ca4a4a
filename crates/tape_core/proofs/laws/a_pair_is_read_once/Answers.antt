use Rattle.tape_core.proofs.OneReadingLemmas.{reads_once}
use Rattle.tape_core.proofs.laws.a_pair_is_read_once.Goals as goal

pub returns : goal.returns
returns c = λ script timing one other r s. reads_once script timing other one s r
