-- What a run comes to that nothing stopped.
use Rattle.std.proofs.Common.{◌≡◌, false, refl, not, Option, None, Some, sym, ◌∙◌, ap}
use Rattle.tape_jobs.specs.Endings.{HoldFiles, Readers, RunEnds, Writers, is_of_input}
use Rattle.tape_jobs.specs.Output.{Files, is_stopped}
use Rattle.command_line.specs.declared.job.Job.{Job}
use Rattle.tape_jobs.specs.declared.job.JobFault.{JobFault}
use Rattle.tape_jobs.specs.declared.job.Outcome.{Outcome}
use Rattle.program.specs.Program.{IsAnswer}

-- a run that nothing stopped is done or refused
pub answered : {S T R O P : Type 0} (readers : Readers S T R) (writers : Writers O P) (job : Job) (outcome : Outcome)
    → RunEnds readers writers job outcome → (fault : Option JobFault) → fault ≡ outcome.fault → is_stopped fault ≡ false
    → (files : Files) → HoldFiles readers job files → IsAnswer job files outcome
answered readers writers job outcome ends None is running files held =
    let answer = (ends.done (sym is)).0.comes files held in
    (answer.0, answer.1, answer.2.0)
answered readers writers job outcome ends (Some f) is running files held =
    let answer = (ends.refused (ap is_of_input (sym is) ∙ ap not running)).0.comes files held in
    (answer.0, answer.1, answer.2.0)
