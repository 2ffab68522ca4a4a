use Rattle.tape_core.proofs.GaveLemmas.{gave_join, took_gave}
use Rattle.tape_jobs.proofs.job.session.put_changes.Goals as goal

pub returns-clause-gives : goal.returns-clause-gives
returns-clause-gives g c = gave_join _ _ _ _ _ _ (took_gave _ _ _ _ c.requires c.in_ok-put_changes.ensures.puts) c.give.ensures
