-- How a job ends, and what its readers and writers are then: done, refused, for want of memory, or as a device fails
-- (ours). The words of tape_core for what became of one device (specs/Devices) hold here too; these come to them:
--
--   AsksNothing     nothing was asked of a device
--   HoldFiles       the readers have these texts to tell
--   JobPuts         a job's writer was given a text: as Puts, but a job may also want memory, in the midst of the text
--   JobGives        the same, but a failure of the writer may be told only when it is asked
--   StopsIn         a job stopped in a text, for want of memory or as the writer failed
--   TookBoth        both writers of a job have taken their texts whole
--   TookPartOfBoth  a beginning of both texts, one after the other, has gone out, and then the writer in which it ends
--                   has failed or it hasn't
--   IsUnwritten     neither writer was asked for anything
use Rattle.std.specs.Prelude.{◌≡◌, ℕ, ◌⊎◌, Bool, true, false, List, Option, Some, None, MatchOption, Result, MatchResult, Ok, not}
use Rattle.chunk_walk.specs.declared.stop.WalkFault.{WalkFault}
use Rattle.chunk_walk.specs.declared.stop.WalkFault.TheVariants as walk
use Rattle.screen_print.specs.EachByte.{has_ink}
use Rattle.screen_print.specs.declared.walk.ChangesFault.{ChangesFault}
use Rattle.screen_print.specs.declared.walk.ChangesFault.TheVariants as changes
use Rattle.tape_check.specs.declared.check.CheckFault.{CheckFault}
use Rattle.tape_check.specs.declared.check.CheckFault.TheVariants as check
use Rattle.tape_core.specs.Devices.{Gave, Took, TookPart, has_failed, inner_of, is_flushed}
use Rattle.tape_core.specs.declared.devices.Watched.{Watched}
use Rattle.tape_core.specs.Tape.{Tape}
use Rattle.tape_core.specs.declared.fault.Fault.TheVariants as fault
use Rattle.tape_jobs.specs.Output.{Comes, Done, Files, IsDoneStatus, ReadsAs, TakesMemory, is_stopped, outcome_by, refused_in, status_after, status_in, takes_requests, writes_timing}
use Rattle.tape_jobs.specs.declared.job.Ending.{Ending}
use Rattle.tape_jobs.specs.Player.{NowhereFor, played_of}
use Rattle.tape_jobs.specs.Texts.{writes_last}
use Rattle.command_line.specs.declared.job.Job.{Job}
use Rattle.command_line.specs.declared.job.Job.TheVariants.{Find}
use Rattle.command_line.specs.declared.player.Player.{Player}
use Rattle.command_line.specs.declared.player.Source.{Source}
use Rattle.tape_jobs.specs.declared.job.JobFault.{JobFault}
use Rattle.tape_jobs.specs.declared.job.JobFault.TheVariants.{File, Memory}
use Rattle.tape_jobs.specs.declared.job.Outcome.{Outcome}

-- ---- readers and writers

-- a device, as a job finds it and as it leaves it, and the bytes that it has to tell or has taken (ours)
pub record Device (T : Type 0) : Type 0 where
  pub bytes : T → Option (List ℕ)
  pub old : Watched T
  pub new : Watched T

abbrev pub used : {T : Type 0} → (T → Option (List ℕ)) → Watched T → Watched T → Device T
used bytes old new = record { bytes = bytes; old = old; new = new }

-- it hasn't failed (ours)
abbrev pub IsSound : {T : Type 0} → Device T → Type 0
IsSound device = has_failed device.new ≡ false

-- it has (ours)
abbrev pub HasFailed : {T : Type 0} → Device T → Type 0
HasFailed device = has_failed device.new ≡ true

-- nothing was asked of it (ours)
abbrev pub AsksNothing : {T : Type 0} → Device T → Type 0
AsksNothing device = device.new ≡ device.old

-- the readers of a job, and the characters of the text beside it. A recording of another form is read in the place of both
-- files (ours).
pub record Readers (S T R : Type 0) : Type 0 where
  pub source : Source
  pub script : Device S
  pub timing : Device T
  pub requests : Device R
  pub text : List ℕ

-- its writers: of its text, and of a new timing (ours)
pub record Writers (O P : Type 0) : Type 0 where
  pub out : Device O
  pub out_timing : Device P

abbrev pub readers_of : {S T R : Type 0} → Source → Device S → Device T → Device R → List ℕ
    → Readers S T R
readers_of source script timing requests text =
    record { source = source; script = script; timing = timing; requests = requests; text = text }

abbrev pub writers_of : {O P : Type 0} → Device O → Device P → Writers O P
writers_of out out_timing = record { out = out; out_timing = out_timing }

-- the readers have these texts to tell; the requests matter where the job reads them; and the text is the one beside
-- the job (ours)
pub record HoldFiles {S T R : Type 0} (readers : Readers S T R) (job : Job) (files : Files)
    : Type 0 where
  pub source : files.source ≡ readers.source
  pub script : readers.script.bytes (inner_of readers.script.old) ≡ Some files.script
  pub timing : readers.timing.bytes (inner_of readers.timing.old) ≡ Some files.timing
  pub requests : takes_requests job ≡ true
      → readers.requests.bytes (inner_of readers.requests.old) ≡ Some files.requests
  pub text : files.text ≡ readers.text

-- no reader has failed (ours)
abbrev pub AreRead : {S T R : Type 0} → Readers S T R → Type 0
AreRead readers = IsSound readers.script × IsSound readers.timing × IsSound readers.requests

-- no writer has failed (ours)
abbrev pub AreSound : {O P : Type 0} → Writers O P → Type 0
AreSound writers = IsSound writers.out × IsSound writers.out_timing

-- nothing was written (ours)
abbrev pub IsUnwritten : {O P : Type 0} → Writers O P → Type 0
IsUnwritten writers = AsksNothing writers.out × AsksNothing writers.out_timing

-- both writers have taken their texts whole, so neither has failed (ours)
pub record TookBoth {O P : Type 0} (writers : Writers O P) (done : Done) : Type 0 where
  pub text : Took writers.out.bytes writers.out.old writers.out.new done.text
  pub timing : Took writers.out_timing.bytes writers.out_timing.old writers.out_timing.new done.timing

-- a beginning of the output went out: of the first text, and nothing of the second, or the first is whole, and of the
-- second; and then the writer in which it ends has failed or it hasn't (ours)
abbrev pub TookPartOfBoth : {O P : Type 0} → Writers O P → Done → Bool → Type 0
TookPartOfBoth writers done failed =
    let out = writers.out in
    let timing = writers.out_timing in
    (TookPart out.bytes out.old out.new done.text failed × AsksNothing timing)
    ⊎ (Took out.bytes out.old out.new done.text
    × TookPart timing.bytes timing.old timing.new done.timing failed)

-- ---- how a text of a job ends

-- a beginning of the text has gone out: memory was refused and the writer is sound, or the writer failed in it (ours)
abbrev pub StopsIn : {O : Type 0} → (O → Option (List ℕ)) → Watched O → Watched O → List ℕ
    → JobFault → Type 0
StopsIn contents old new text f =
    ((f ≡ Memory) × TookPart contents old new text false)
    ⊎ ((f ≡ File fault.WriteFault) × TookPart contents old new text true)

-- a job's writer was given this text: at Ok it has taken it whole, and at Err the job stopped in it (ours)
abbrev pub JobPuts : {O A : Type 0} → (O → Option (List ℕ)) → Watched O → Watched O → List ℕ
    → Result A JobFault → Type 0
JobPuts contents old new text result =
    MatchResult result (λ done. Took contents old new text) (StopsIn contents old new text)

-- a job's writer was given this text: at Ok it may have failed in it, and at Err the job stopped in it (ours)
abbrev pub JobGives : {O A : Type 0} → (O → Option (List ℕ)) → Watched O → Watched O → List ℕ
    → Result A JobFault → Type 0
JobGives contents old new text result =
    MatchResult result (λ done. Gave contents old new text) (StopsIn contents old new text)

-- why a walk over chunks ends early, as a fault of a job (ours)
abbrev pub fault_of_changes : ChangesFault → JobFault
fault_of_changes changes.Write = File fault.WriteFault
fault_of_changes changes.Memory = Memory

-- the same of a print of chunks (ours)
abbrev pub fault_of_walk : WalkFault → JobFault
fault_of_walk walk.Write = File fault.WriteFault
fault_of_walk walk.Memory = Memory

-- why a check ends early, as a fault of a job (ours)
abbrev pub fault_of_check : CheckFault → JobFault
fault_of_check check.Write = File fault.WriteFault
fault_of_check check.Memory = Memory

-- ---- how a job ends on a recording

-- what was written was flushed: the text, and the new timing where the job writes one (ours)
abbrev pub AreFlushed : {O P : Type 0} → Writers O P → Job → Type 0
AreFlushed writers job = (is_flushed writers.out.new ≡ true)
    × (writes_timing job ≡ true → is_flushed writers.out_timing.new ≡ true)

-- Private: it is done: its texts went out whole and were flushed (ours)
pub record IsDone {O P : Type 0} (writers : Writers O P) (job : Job) (done : Done)
    (ending : Ending) : Type 0 where
  pub outcome : done.outcome ≡ outcome_by (Ok ending)
  pub status : IsDoneStatus job (status_after ending)
  pub wrote : TookBoth writers done
  pub flushed : is_flushed writers.out.new ≡ true
  pub flushed_timing : writes_timing job ≡ true → is_flushed writers.out_timing.new ≡ true

-- Private: memory is refused, to a job that takes some now: a beginning of the output has gone out, and nothing,
-- where the job takes all its memory before it writes (ours)
pub record WantsMemory {O P : Type 0} (writers : Writers O P) (job : Job) (done : Done)
    : Type 0 where
  pub takes : TakesMemory job
  pub begun : TookPartOfBoth writers done false
  pub unwritten : writes_last job ≡ true → IsUnwritten writers

-- Private: it isn't done: for want of memory, as a writer fails, or at a fault of its own before anything is written
-- (ours)
abbrev pub IsUndone : {O P : Type 0} → Writers O P → Job → Done → JobFault → Type 0
IsUndone writers job done f =
    ((f ≡ Memory) × WantsMemory writers job done)
    ⊎ (((f ≡ File fault.WriteFault) × TookPartOfBoth writers done true)
    ⊎ ((is_stopped (Some f) ≡ false) × (done ≡ refused_in job f) × IsUnwritten writers))

-- Private: it is done, or it isn't (ours)
abbrev pub JobEnds : {O P : Type 0} → Writers O P → Job → Done → Result Ending JobFault → Type 0
JobEnds writers job done result =
    MatchResult result (IsDone writers job done) (IsUndone writers job done)

-- ---- how a run ends

-- for all texts that the readers may have to tell, it is so of what the job comes to on them (ours)
abbrev pub OnFiles : {S T R : Type 0} → Readers S T R → Job → (Done → Type 0) → Type 0
OnFiles readers job P = (files : Files) → HoldFiles readers job files
    → (done : Done) × Comes job files done × P done

-- no device has failed, and the run is what the job comes to on the files (ours)
pub record IsWhole {S T R O P : Type 0} (readers : Readers S T R) (writers : Writers O P)
    (job : Job) (outcome : Outcome) : Type 0 where
  pub read : AreRead readers
  pub written : AreSound writers
  pub comes : OnFiles readers job (λ done. (outcome ≡ done.outcome) × TookBoth writers done)

-- the fault is one of what the job was given: the pair of files has it, or a request line is refused (ours)
abbrev pub is_of_input : Option JobFault → Bool
is_of_input None = false
is_of_input (Some f) = not (is_stopped (Some f))

-- memory was refused: once the recording was read, or while the files were (ours)
abbrev pub IsForMemory : Option JobFault → Type 0
IsForMemory f = (f ≡ Some Memory) ⊎ (f ≡ Some (File fault.OutOfMemory))

-- while the files are read nothing is written; once they are, only a job that takes memory ends so, and a beginning
-- of what it comes to has gone out, or nothing where it writes last (ours)
pub record RunsOut {S T R O P : Type 0} (readers : Readers S T R) (writers : Writers O P)
    (job : Job) (f : Option JobFault) : Type 0 where
  pub read : AreRead readers
  pub written : AreSound writers
  pub reading : f ≡ Some (File fault.OutOfMemory) → IsUnwritten writers
  pub takes : f ≡ Some Memory → TakesMemory job
  pub begun : f ≡ Some Memory → OnFiles readers job (λ done. TookPartOfBoth writers done false)
  pub unwritten : f ≡ Some Memory → writes_last job ≡ true → IsUnwritten writers

-- a reader failed, or a writer (ours)
abbrev pub IsForDevice : Option JobFault → Type 0
IsForDevice f = (f ≡ Some (File fault.ReadFault)) ⊎ (f ≡ Some (File fault.WriteFault))

-- one of the readers has failed (ours)
abbrev pub AReaderFailed : {S T R : Type 0} → Readers S T R → Type 0
AReaderFailed readers =
    HasFailed readers.script ⊎ (HasFailed readers.timing ⊎ HasFailed readers.requests)

-- where a reader failed nothing is written; where a writer failed, a beginning of what the job comes to has gone out
-- (ours)
pub record IsBroken {S T R O P : Type 0} (readers : Readers S T R) (writers : Writers O P)
    (job : Job) (f : Option JobFault) : Type 0 where
  pub reader : f ≡ Some (File fault.ReadFault) → AReaderFailed readers
  pub unwritten : f ≡ Some (File fault.ReadFault) → IsUnwritten writers
  pub writer : f ≡ Some (File fault.WriteFault)
      → HasFailed writers.out ⊎ HasFailed writers.out_timing
  pub stopped : f ≡ Some (File fault.WriteFault)
      → OnFiles readers job (λ done. TookPartOfBoth writers done true)

-- how a run ends: done, refused, for want of memory, or as a device fails; its status; and what the job leaves alone
-- (ours)
pub record RunEnds {S T R O P : Type 0} (readers : Readers S T R) (writers : Writers O P)
    (job : Job) (outcome : Outcome) : Type 0 where
  pub done : outcome.fault ≡ None
      → IsWhole readers writers job outcome × AreFlushed writers job
  pub refused : is_of_input outcome.fault ≡ true
      → IsWhole readers writers job outcome × IsUnwritten writers
  pub memory : IsForMemory outcome.fault → RunsOut readers writers job outcome.fault
  pub device : IsForDevice outcome.fault → IsBroken readers writers job outcome.fault
  pub status : MatchOption outcome.fault (IsDoneStatus job outcome.status)
      (λ f. outcome.status ≡ status_in job f)
  pub requests : takes_requests job ≡ false → AsksNothing readers.requests
  pub out_timing : writes_timing job ≡ false → AsksNothing writers.out_timing

-- ---- a search that finds nothing

-- where it is done with status 1, the files are read as a recording in which the text stands nowhere: not at the moment
-- `from`, and not after any byte of a chunk that is asked for (ours)
abbrev pub NothingIsNowhere : {S T R : Type 0} → Readers S T R → Job → Outcome → Type 0
NothingIsNowhere readers job outcome = (player : Player) (from : Option ℕ) (to : ℕ)
    → job ≡ Find from to player → has_ink readers.text ≡ true → outcome.fault ≡ None → outcome.status ≡ 1
    → (files : Files) → HoldFiles readers job files
    → (tape : Tape) × (resizes : ℕ) × ReadsAs files tape resizes
    × NowhereFor (played_of player tape) tape from to readers.text
