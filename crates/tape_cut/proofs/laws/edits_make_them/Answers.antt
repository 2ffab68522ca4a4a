use Rattle.tape_cut.proofs.CutLemmas.{cut_made_law, nothing_cut}
use Rattle.tape_cut.proofs.ExcerptLemmas.{excerpt_made_law}
use Rattle.tape_cut.proofs.laws.edits_make_them.Goals as goal

pub returns : goal.returns
returns c = record { cut = cut_made_law; none = nothing_cut; excerpt = excerpt_made_law }
