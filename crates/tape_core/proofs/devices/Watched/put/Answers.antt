use Rattle.std.proofs.Common.{rules}
use Rattle.std.proofs.lemmas.Slice.{between_to_end}
use Rattle.std.proofs.lemmas.Result.{err_from_is_err_and}
use Rattle.tape_core.proofs.DeviceLemmas.{put_stopped, put_more}
use Rattle.tape_core.proofs.devices.Watched.put.Goals as goal

pub returns-in_err-taken-clause-puts : goal.returns-in_err-taken-clause-puts
returns-in_err-taken-clause-puts g c =
    let p = err_from_is_err_and c.from_residual.result c.from_residual.ensures.1 in
    rw (p.1, p.2) (c.in_err-taken.ensures.fault, put_stopped c.loop-rest.invariant.0 c.in_err-taken.ensures.stopped)

pub loop-rest-preserved : goal.loop-rest-preserved
loop-rest-preserved g c = (search (rules, put_more, between_to_end), search rules)
