use Rattle.tape_core.proofs.GaveLemmas.{took_gave}
use Rattle.tape_jobs.proofs.job.import.tell.Goals as goal

pub returns-clause-puts : goal.returns-clause-puts
returns-clause-puts g c = c.settle.ensures.puts _ _ (took_gave _ _ _ _ c.requires c.in_ok-put_losses.ensures)
