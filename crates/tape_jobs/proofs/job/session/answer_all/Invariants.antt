use Rattle.std.proofs.Common.{length}
use Rattle.tape_core.specs.Text.{lines_of}
use Rattle.tape_jobs.specs.Requests.{course_of}
use Rattle.tape_jobs.proofs.SessionLemmas.{AnsweredBefore}
use Rattle.tape_jobs.proofs.job.session.answer_all.Given as goal

-- the lines so far were answered
abbrev pub invariant-loop-rest : goal.invariant-loop-rest
invariant-loop-rest g l =
    AnsweredBefore g.O.Write.contents l.fn.out l.out (course_of g.T.Answers.played l.fn.session) (lines_of l.requests) (course_of g.T.Answers.played l.session) (lines_of l.rest) l.refused

abbrev pub decreases-loop-rest : goal.decreases-loop-rest
decreases-loop-rest g l = length l.rest
