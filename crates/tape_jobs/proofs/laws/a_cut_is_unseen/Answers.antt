use Rattle.tape_jobs.proofs.UnseenLemmas.{cuts_unseen}
use Rattle.tape_jobs.proofs.laws.a_cut_is_unseen.Goals as goal

pub returns : goal.returns
returns c = cuts_unseen c.a_cut_is_unseen.ensures c.a_cut_is_unseen-2.ensures
