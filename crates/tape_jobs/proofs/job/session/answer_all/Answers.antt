use Rattle.std.proofs.Common.{◌≡◌, ap, append_assoc, arith, inr, length}
use Rattle.std.proofs.lemmas.Bool.Decides.{nat_tests}
use Rattle.std.proofs.lemmas.List.{nil_from_length}
use Rattle.std.proofs.lemmas.Result.{err_from_is_err_and}
use Rattle.tape_core.proofs.GaveLemmas.{gave_join, took_gave}
use Rattle.tape_core.specs.Text.{lines_of}
use Rattle.tape_jobs.specs.Requests.{course_of}
use Rattle.tape_jobs.specs.declared.job.JobFault.TheVariants.{File}
use Rattle.tape_jobs.proofs.JobLemmas.{stops_first, stops_second}
use Rattle.tape_jobs.proofs.SessionLemmas.{answered_all, answered_more, answers_left, nothing_answered, refused_all}
use Rattle.tape_jobs.proofs.job.session.answer_all.Goals as goal

pub loop-rest-init : goal.loop-rest-init
loop-rest-init g c = nothing_answered g.O.Write.contents c.args.out.now (course_of g.T.Answers.played c.args.session.now) (lines_of c.args.requests.now) c.requires

pub loop-rest-preserved : goal.loop-rest-preserved
loop-rest-preserved g c =
    let line = c.in_ok-is_refused in
    answered_more c.answer_line.new.out (lines_of c.next_line.result.1.now) c.next_line.result.0.now
    (course_of g.T.Answers.played c.answer_line.new.session) line.is_refused c.loop-rest.invariant
    c.next_line.ensures.lines line.ensures.course line.ensures.refused
    (λ x took. c.in_ok-ask.ensures.puts _ _ (gave_join _ _ _ _ x _ (took_gave _ _ _ x c.requires took) line.ensures.gives))

pub returns-in_err-is_refused-clause-puts : goal.returns-in_err-is_refused-clause-puts
returns-in_err-is_refused-clause-puts g c =
    let p = err_from_is_err_and c.from_residual.result c.from_residual.ensures.1 in
    let before = c.loop-rest.invariant in
    rw (p.1, p.2, answers_left (lines_of c.next_line.result.1.now) c.next_line.result.0.now before c.next_line.ensures.lines)
    (stops_second g.O.Write.contents _ _ _ before.text _ _ (stops_first g.O.Write.contents _ _ _ _ _ c.in_err-is_refused.ensures.gives) before.took)

pub returns-in_err-ask-clause-puts : goal.returns-in_err-ask-clause-puts
returns-in_err-ask-clause-puts g c =
    let p = err_from_is_err_and c.from_residual-in_err-ask.result c.from_residual-in_err-ask.ensures.1 in
    let before = c.loop-rest.invariant in
    let stopped = c.in_err-ask.ensures.puts _ _ (gave_join _ _ _ _ before.text _ (took_gave _ _ _ _ c.requires before.took) c.in_ok-is_refused.ensures.gives) in
    rw (p.1, p.2, answers_left (lines_of c.next_line.result.1.now) c.next_line.result.0.now before c.next_line.ensures.lines, ← append_assoc)
    (stops_first g.O.Write.contents _ _ _ _ _ (inr (ap File stopped.0, stopped.1)))

pub returns-clause-puts : goal.returns-clause-puts
returns-clause-puts g c =
    let none : length c.loop-rest.rest.now ≡ 0 = grind (arith, nat_tests) in
    answered_all c.loop-rest.invariant (ap lines_of (nil_from_length c.loop-rest.rest.now none))

pub returns-clause-refused : goal.returns-clause-refused
returns-clause-refused g c =
    let none : length c.loop-rest.rest.now ≡ 0 = grind (arith, nat_tests) in
    refused_all c.loop-rest.invariant (ap lines_of (nil_from_length c.loop-rest.rest.now none))
