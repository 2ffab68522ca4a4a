use Rattle.std.proofs.Common.{rules}
use Rattle.std.proofs.lemmas.Result.{err_from_is_err_and}
use Rattle.tape_jobs.proofs.ImportLemmas.{has_no_form}
use Rattle.tape_jobs.proofs.job.import.read_imported.Goals as goal

pub returns-in_err-import-clause-fault : goal.returns-in_err-import-clause-fault
returns-in_err-import-clause-fault g c =
    let p = err_from_is_err_and c.from_residual-in_err-import.result c.from_residual-in_err-import.ensures.1 in
    rw (p.1, p.2) (λ unstopped file held. has_no_form _ unstopped file (λ other.
    let none = c.in_err-import.ensures.fault other in search rules))
