use Rattle.std.proofs.Common.{ap, inl, inr, refl}
use Rattle.std.proofs.lemmas.Result.{err_from_is_err_and}
use Rattle.tape_jobs.proofs.TellingLemmas.{one_failed}
use Rattle.tape_jobs.specs.Endings.{used, writers_of}
use Rattle.tape_jobs.specs.Output.{done_importing}
use Rattle.tape_jobs.specs.declared.job.JobFault.TheVariants.{File}
use Rattle.tape_jobs.proofs.job.import.write_and_tell.Goals as goal

pub returns-in_err-ending : goal.returns-in_err-ending
returns-in_err-ending g c =
    let p = err_from_is_err_and c.from_residual.result c.from_residual.ensures.1 in
    let stopped = c.in_err-ending.ensures.stopped in
    let imported = c.args.imported.now in
    rw (p.1, p.2) (
      stopped.0,
      one_failed (writers_of (used g.O.Write.contents c.args.out.now c.write_imported.new.out)
          (used g.P.Write.contents c.args.out_timing.now c.write_imported.new.out_timing))
          (used g.L.Write.contents c.args.told.now c.args.told.now) (done_importing imported.recording imported.losses) stopped.1,
      inl (stopped.1, refl),
    )

pub returns-in_err-tell : goal.returns-in_err-tell
returns-in_err-tell g c =
    let p = err_from_is_err_and c.from_residual-in_err-tell.result c.from_residual-in_err-tell.ensures.1 in
    let stopped = c.in_err-tell.ensures.puts in
    let is = c.in_ok-ending.ensures.ends in
    rw (p.1, p.2) (ap File stopped.0, inr (inr stopped.1.failing), inr (is.wrote, stopped.1))

pub returns : goal.returns
returns g c = (c.in_ok-ending.ensures.ends, c.in_ok-tell.ensures.puts, c.in_ok-tell.ensures.flushed)
