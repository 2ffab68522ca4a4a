-- The statuses of the program.
use Rattle.std.specs.Prelude.{◌≡◌, ℕ, MatchOption}
use Rattle.clap.specs.Words.{kind_of}
use Rattle.clap.specs.declared.error.ErrorKind.{ErrorKind}
use Rattle.clap.specs.declared.error.ErrorKind.TheVariants.{DisplayHelp, DisplayVersion}
use Rattle.tape_jobs.specs.Output.{Comes, Done, Files, IsDoneStatus, status_in, status_of}
use Rattle.command_line.specs.declared.job.Job.{Job}
use Rattle.tape_jobs.specs.declared.job.Outcome.{Outcome}
use Rattle.job_files.specs.declared.stop.FileStop.{FileStop}
use Rattle.job_files.specs.declared.stop.FileStop.TheVariants as file_stop
use Rattle.program.specs.declared.run.Stop.{Stop}
use Rattle.program.specs.declared.run.Stop.TheVariants.{Words, NotText, Memory, CannotOpen, CannotCreate, Job as of_job}
use Rattle.command_line.specs.declared.words.WordsFault.TheVariants as words

-- 0 where help is asked for, and 2 for a mistake (ours)
abbrev pub clap_status : ErrorKind → ℕ
clap_status DisplayHelp = 0
clap_status DisplayVersion = 0
clap_status _ = 2

-- the status where the program stops (ours)
abbrev pub stop_status : Stop → ℕ
stop_status (Words (words.Clap e)) = clap_status (kind_of e)
stop_status (Words words.BadSeconds) = 2
stop_status (Words words.BadEvery) = 2
stop_status (Words words.BadProfile) = 2
stop_status (Words words.BadSize) = 2
stop_status (Words words.BadText) = 2
stop_status (Words words.BothHeaders) = 2
stop_status (Words words.BothPrints) = 2
stop_status (Words words.Memory) = 3
stop_status NotText = 2
stop_status Memory = 3
stop_status (CannotOpen path error) = 3
stop_status (CannotCreate path error) = 3
stop_status (of_job fault) = status_of fault

-- how the job ends: with the status of its fault in this job where it has one, and else with one of a job that is done
-- (ours)
abbrev pub IsOutcome : Job → Outcome → Type 0
IsOutcome job outcome = MatchOption outcome.fault (IsDoneStatus job outcome.status)
    (λ fault. outcome.status ≡ status_in job fault)

-- it ends as the job does on these files (ours)
abbrev pub IsAnswer : Job → Files → Outcome → Type 0
IsAnswer job files outcome = (done : Done) × Comes job files done × (outcome ≡ done.outcome)

-- why there are no files, as a stop of the program (ours)
abbrev pub stop_of_files : FileStop → Stop
stop_of_files file_stop.Memory = Memory
stop_of_files (file_stop.CannotOpen path error) = CannotOpen path error
stop_of_files (file_stop.CannotCreate path error) = CannotCreate path error
