use Rattle.std.proofs.Common.{inl, refl}
use Rattle.std.proofs.lemmas.Result.{err_from_is_err_and}
use Rattle.tape_jobs.proofs.JobLemmas.{part_none}
use Rattle.tape_jobs.proofs.job.redact.write_cleared.Goals as goal

pub returns-in_err-cleared : goal.returns-in_err-cleared
returns-in_err-cleared g c =
    let p = err_from_is_err_and c.from_residual.result c.from_residual.ensures.1 in
    rw (p.1, p.2) (inl (
      c.in_err-cleared.ensures.fault,
      record {
        takes = tt;
        begun = inl (part_none _ _ _ c.requires.out, refl);
        unwritten = λ _. (refl, refl);
      },
    ))

pub returns-in_err-found : goal.returns-in_err-found
returns-in_err-found g c =
    let p = err_from_is_err_and c.from_residual-in_err-found.result c.from_residual-in_err-found.ensures.1 in
    rw (p.1, p.2) (inl (
      c.in_err-found.ensures.fault,
      record {
        takes = tt;
        begun = inl (part_none _ _ _ c.requires.out, refl);
        unwritten = λ _. (refl, refl);
      },
    ))
