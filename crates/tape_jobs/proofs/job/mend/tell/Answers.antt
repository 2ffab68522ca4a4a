use Rattle.std.proofs.lemmas.Result.{err_from_is_err_and}
use Rattle.tape_core.proofs.DeviceLemmas.{stopped_before}
use Rattle.tape_core.proofs.GaveLemmas.{gave_join, took_gave}
use Rattle.tape_jobs.specs.Mending.{untimed_text}
use Rattle.tape_jobs.proofs.job.mend.tell.Goals as goal

pub returns-in_err-put_losses-clause-puts : goal.returns-in_err-put_losses-clause-puts
returns-in_err-put_losses-clause-puts g c =
    let p = err_from_is_err_and c.from_residual.result c.from_residual.ensures.1 in
    rw (p.1, p.2)
    (c.in_err-put_losses.ensures.0, stopped_before (untimed_text c.args.mended.now.recording.trailer) c.in_err-put_losses.ensures.1)

pub returns-clause-puts : goal.returns-clause-puts
returns-clause-puts g c =
    c.settle.ensures.puts _ _ (gave_join _ _ _ _ _ _ (took_gave _ _ _ _ c.requires c.in_ok-put_losses.ensures)
    (rw c.trailer.ensures at c.put_untimed.ensures))
