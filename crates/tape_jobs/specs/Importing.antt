-- How importing a recording of another form ends (ours). It has the one reader of the recording, and three writers: of the
-- new pair, and of what is told of it.
use Rattle.std.specs.Prelude.{◌≡◌, ◌⊎◌, List, ℕ, Option, Some}
use Rattle.tape_core.specs.Devices.{inner_of}
use Rattle.tape_jobs.specs.Endings.{Device, HasFailed, IsSound, Writers}
use Rattle.tape_jobs.specs.Output.{ComesImported, Done}
use Rattle.tape_jobs.specs.Telling.{TellingEnds}
use Rattle.command_line.specs.declared.job.Job.TheVariants.{Import}
use Rattle.tape_jobs.specs.declared.job.JobFault.{JobFault}
use Rattle.tape_jobs.specs.declared.job.JobFault.TheVariants.{Compressed, NoKnownForm}
use Rattle.tape_jobs.specs.declared.job.Outcome.{Outcome}

-- whatever file the reader may have to tell, importing it comes to something, with something told of it, of which it is
-- so (ours)
abbrev pub OnFile : {S : Type 0} → Device S → (Done → List ℕ → Type 0) → Type 0
OnFile reader P = (file : List ℕ) → reader.bytes (inner_of reader.old) ≡ Some file
    → (done : Done) × (text : List ℕ) × ComesImported file done text × P done text

-- the recording is compressed, or its form isn't known (ours)
abbrev pub IsOfForm : Option JobFault → Type 0
IsOfForm told = (told ≡ Some Compressed) ⊎ (told ≡ Some NoKnownForm)

-- how it ends: done, refused where the file has no form that is read, for want of memory, or as a device fails; and its
-- status (ours)
abbrev pub ImportEnds : {S O P L : Type 0} → Device S → Writers O P → Device L → Outcome → Type 0
ImportEnds reader writers told outcome = TellingEnds (IsSound reader) (HasFailed reader) (OnFile reader) IsOfForm
    writers told Import outcome
