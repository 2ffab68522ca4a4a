-- How a job ends that writes a pair of files anew and, when both are whole, tells of it over a third writer (ours).
use Rattle.std.specs.Prelude.{◌≡◌, ℕ, ◌⊎◌, true, List, Option, Some, None, MatchOption, Result, MatchResult}
use Rattle.tape_core.specs.Devices.{Took, TookPart, is_flushed}
use Rattle.tape_core.specs.declared.fault.Fault.TheVariants as fault
use Rattle.tape_jobs.specs.Endings.{AreFlushed, AsksNothing, Device, HasFailed, IsDone, IsForMemory, IsUnwritten, TookBoth, TookPartOfBoth, Writers, is_of_input}
use Rattle.tape_jobs.specs.Output.{Done, IsDoneStatus, status_of}
use Rattle.tape_jobs.specs.declared.job.Ending.{Ending}
use Rattle.command_line.specs.declared.job.Job.{Job}
use Rattle.tape_jobs.specs.declared.job.JobFault.{JobFault}
use Rattle.tape_jobs.specs.declared.job.JobFault.TheVariants.{File}
use Rattle.tape_jobs.specs.declared.job.Outcome.{Outcome}

-- no device has failed; all three texts have gone out whole and were flushed, and the outcome is what the job comes to
-- (ours)
pub record IsWholeAndTold {O P L : Type 0} (Read : Type 0) (On : (Done → List ℕ → Type 0) → Type 0)
    (writers : Writers O P) (told : Device L) (job : Job) (outcome : Outcome) : Type 0 where
  pub read : Read
  pub wrote : On (λ done text. (outcome ≡ done.outcome) × TookBoth writers done
      × Took told.bytes told.old told.new text)
  pub flushed : AreFlushed writers job
  pub flushed_told : is_flushed told.new ≡ true

-- nothing was written (ours)
abbrev pub IsSilent : {O P L : Type 0} → Writers O P → Device L → Type 0
IsSilent writers told = IsUnwritten writers × AsksNothing told

-- a beginning of the three texts, one behind another, has gone out, and then the writer in which it ends has failed:
-- nothing is told before both files are whole (ours)
abbrev pub StoppedInThree : {O P L : Type 0} → Writers O P → Device L → Done → List ℕ → Type 0
StoppedInThree writers told done text =
    (TookPartOfBoth writers done true × AsksNothing told)
    ⊎ (TookBoth writers done × TookPart told.bytes told.old told.new text true)

-- one of the writers has failed (ours)
abbrev pub AWriterFailed : {O P L : Type 0} → Writers O P → Device L → Type 0
AWriterFailed writers told =
    HasFailed writers.out ⊎ (HasFailed writers.out_timing ⊎ HasFailed told)

-- Private: how writing the pair and telling of it ends (ours)
abbrev pub ThreeEnd : {O P L : Type 0} → Writers O P → Device L → Job → Done → List ℕ → Result Ending JobFault → Type 0
ThreeEnd writers told job done text result = MatchResult result
    (λ ending. IsDone writers job done ending
    × Took told.bytes told.old told.new text × (is_flushed told.new ≡ true))
    (λ f. (f ≡ File fault.WriteFault) × AWriterFailed writers told × StoppedInThree writers told done text)

-- how such a job ends: done, refused for one of these faults, for want of memory, or as a device fails; and its status.
-- Read: no reader has failed; Failed: one has; On: for all texts that the readers may have to tell, it is so of what the
-- job comes to on them, and of what is told of it (ours)
pub record TellingEnds {O P L : Type 0} (Read Failed : Type 0) (On : (Done → List ℕ → Type 0) → Type 0)
    (IsRefusal : Option JobFault → Type 0) (writers : Writers O P) (told : Device L) (job : Job)
    (outcome : Outcome) : Type 0 where
  pub done : outcome.fault ≡ None → IsWholeAndTold Read On writers told job outcome
  pub refused : is_of_input outcome.fault ≡ true
      → Read × IsSilent writers told × IsRefusal outcome.fault
      × On (λ done text. outcome ≡ done.outcome)
  pub memory : IsForMemory outcome.fault → Read × IsSilent writers told
  pub reader : outcome.fault ≡ Some (File fault.ReadFault) → Failed × IsSilent writers told
  pub writer : outcome.fault ≡ Some (File fault.WriteFault)
      → AWriterFailed writers told × On (StoppedInThree writers told)
  pub status : MatchOption outcome.fault (IsDoneStatus job outcome.status)
      (λ f. outcome.status ≡ status_of f)
