use Rattle.std.proofs.Common.{◌∙◌}
use Rattle.tape_jobs.proofs.job.mend.put_untimed_line.Goals as goal

pub returns : goal.returns
returns g c = rw (← (c.as_bytes.ensures.value ∙ c.format.ensures.text)) c.give_all.ensures
