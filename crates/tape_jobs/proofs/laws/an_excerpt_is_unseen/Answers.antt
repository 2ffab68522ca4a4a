use Rattle.tape_jobs.proofs.UnseenLemmas.{excerpts_unseen}
use Rattle.tape_jobs.proofs.laws.an_excerpt_is_unseen.Goals as goal

pub returns : goal.returns
returns c = excerpts_unseen c.an_excerpt_is_unseen.ensures c.an_excerpt_is_unseen-2.ensures
