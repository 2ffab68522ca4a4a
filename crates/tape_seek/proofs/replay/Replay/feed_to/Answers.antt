use Rattle.std.proofs.Common.{arith}
use Rattle.std.proofs.lemmas.Result.{err_from_is_err_and}
use Rattle.tape_seek.proofs.ReplayLemmas.{holds_less}
use Rattle.tape_seek.proofs.replay.Replay.feed_to.Goals as goal

pub returns-in_err-step_on-clause-err : goal.returns-in_err-step_on-clause-err
returns-in_err-step_on-clause-err g c =
    let p = err_from_is_err_and c.from_residual.result c.from_residual.ensures.1 in
    rw p.1 (holds_less g.T.Plays c.laws.ensures.parts c.args.chunks.now c.args.self.now.frontier c.loop-self.self.frontier c.step_on.new.self (omega (arith, c.loop-self.invariant.frontier)) c.in_err-step_on.ensures.err)
