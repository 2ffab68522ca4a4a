use Rattle.std.proofs.Common.{ap, inr, rules}
use Rattle.std.proofs.lemmas.Result.{err_from_is_err_and}
use Rattle.tape_core.proofs.GaveLemmas.{took_gave}
use Rattle.tape_core.specs.Devices.{Took}
use Rattle.tape_core.specs.Text.{lines_of}
use Rattle.tape_jobs.specs.Requests.{started}
use Rattle.tape_jobs.specs.Session.{answered}
use Rattle.tape_jobs.specs.declared.job.JobFault.TheVariants.{File}
use Rattle.tape_jobs.proofs.job.session.put_answers.Goals as goal

pub returns-in_err-settle-clause-puts : goal.returns-in_err-settle-clause-puts
returns-in_err-settle-clause-puts g c =
    let p = err_from_is_err_and c.from_residual-in_err-settle.result c.from_residual-in_err-settle.ensures.1 in
    let text = answered (started (g.T.Answers.played c.args.profile) c.args.recording) (lines_of c.args.requests.now) in
    let took : Took g.O.Write.contents c.args.out.now c.answer_all.new.out text = search rules in
    let stopped = c.in_err-settle.ensures.puts _ _ (took_gave _ _ _ _ c.requires took) in
    rw (p.1, p.2) (inr (ap File stopped.0, stopped.1))

pub returns-clause-puts : goal.returns-clause-puts
returns-clause-puts g c =
    let text = answered (started (g.T.Answers.played c.args.profile) c.args.recording) (lines_of c.args.requests.now) in
    let took : Took g.O.Write.contents c.args.out.now c.answer_all.new.out text = search rules in
    c.in_ok-settle.ensures.puts _ _ (took_gave _ _ _ _ c.requires took)
