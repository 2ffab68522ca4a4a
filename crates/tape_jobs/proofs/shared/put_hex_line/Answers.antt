use Rattle.std.proofs.Common.{[], ◌∷◌}
use Rattle.std.proofs.lemmas.Result.{err_from_is_err_and}
use Rattle.tape_core.proofs.DeviceLemmas.{stopped_before}
use Rattle.tape_core.proofs.GaveLemmas.{gave_join, took_gave}
use Rattle.tape_jobs.proofs.shared.put_hex_line.Goals as goal

pub returns-in_err-put_hex-clause-puts : goal.returns-in_err-put_hex-clause-puts
returns-in_err-put_hex-clause-puts g c =
    let p = err_from_is_err_and c.from_residual.result c.from_residual.ensures.1 in
    rw (p.1, p.2) (c.in_err-put_hex.ensures.0, stopped_before (10 ∷ []) c.in_err-put_hex.ensures.1)

pub returns-clause-puts : goal.returns-clause-puts
returns-clause-puts g c =
    c.settle.ensures.puts _ _ (gave_join _ _ _ _ _ _ (took_gave _ _ _ _ c.requires c.in_ok-put_hex.ensures) c.give.ensures)
