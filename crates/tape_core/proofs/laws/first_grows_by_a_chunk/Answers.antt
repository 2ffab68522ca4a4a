use Rattle.tape_core.proofs.FirstLemmas.{first-more, first-more_of}
use Rattle.tape_core.proofs.laws.first_grows_by_a_chunk.Goals as goal

pub returns : goal.returns
returns c = record { at = first-more; of = first-more_of }
