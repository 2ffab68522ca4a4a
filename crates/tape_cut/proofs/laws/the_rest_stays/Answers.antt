use Rattle.tape_cut.proofs.CutLemmas.{cut_keeps_law}
use Rattle.tape_cut.proofs.ExcerptLemmas.{excerpt_keeps_law}
use Rattle.tape_cut.proofs.laws.the_rest_stays.Goals as goal

pub returns : goal.returns
returns c = record { cut = cut_keeps_law; excerpt = excerpt_keeps_law }
