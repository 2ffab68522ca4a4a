use Rattle.std.proofs.Common.{[], ◌∷◌, ◌++◌, List, ℕ, ap, codes, inr}
use Rattle.std.proofs.lemmas.Result.{err_from_is_err_and}
use Rattle.tape_core.proofs.DeviceLemmas.{stopped_before}
use Rattle.tape_core.proofs.GaveLemmas.{gave_join, took_gave}
use Rattle.tape_jobs.specs.declared.job.JobFault.TheVariants.{File}
use Rattle.tape_jobs.proofs.job.session.put_log.Goals as goal

pub returns-in_err-write_log : goal.returns-in_err-write_log
returns-in_err-write_log g c =
    let p = err_from_is_err_and c.from_residual.result c.from_residual.ensures.1 in
    let end : List ℕ = codes "end" ++ 10 ∷ [] in
    rw (p.1, p.2, ← c.log.ensures.value)
    (inr (ap File c.in_err-write_log.ensures.puts.0, stopped_before end c.in_err-write_log.ensures.puts.1))

pub returns : goal.returns
returns g c =
    let end : List ℕ = codes "end" ++ 10 ∷ [] in
    rw (← c.log.ensures.value)
    (gave_join g.O.Write.contents c.args.out.now c.write_log.new.writer c.give.new.self _ end
    (took_gave g.O.Write.contents c.args.out.now c.write_log.new.writer _ c.requires c.in_ok-write_log.ensures.puts) c.give.ensures)
