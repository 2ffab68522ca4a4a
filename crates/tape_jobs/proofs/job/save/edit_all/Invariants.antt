use Rattle.std.proofs.Common.{◌≡◌, ◌+◌, ◌≤◌, length}
use Rattle.tape_core.specs.Text.{lines_of}
use Rattle.tape_jobs.specs.Requests.{course_of, saved}
use Rattle.tape_check.specs.declared.played.PlayedAs.TheVariants.{Vt}
use Rattle.tape_jobs.proofs.job.save.edit_all.Given as goal

-- the lines so far are done, and the rest decides
abbrev pub invariant-loop-rest : goal.invariant-loop-rest
invariant-loop-rest l =
    (saved 1 (course_of Vt l.fn.session) (lines_of l.requests) ≡ saved (l.line + 1) (course_of Vt l.session) (lines_of l.rest))
    × (l.line + length l.rest ≤ length l.requests)

abbrev pub decreases-loop-rest : goal.decreases-loop-rest
decreases-loop-rest l = length l.rest
