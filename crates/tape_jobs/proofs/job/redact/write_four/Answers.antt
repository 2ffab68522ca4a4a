use Rattle.std.proofs.Common.{inl, refl}
use Rattle.std.proofs.lemmas.Result.{err_from_is_err_and}
use Rattle.tape_jobs.proofs.JobLemmas.{part_none}
use Rattle.tape_jobs.proofs.job.redact.write_four.Goals as goal

pub returns-in_err-cleared : goal.returns-in_err-cleared
returns-in_err-cleared g c =
    let p = err_from_is_err_and c.from_residual.result c.from_residual.ensures.1 in
    rw (p.1, p.2)
    (inl (c.in_err-cleared.ensures.fault, inl (inl (part_none _ _ _ c.requires.out, refl), refl, refl)))
