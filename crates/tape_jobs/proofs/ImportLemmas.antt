-- What importing comes to, and how it ends.
use Rattle.std.proofs.Common.{◌≡◌, ◌≢◌, ℕ, false, List, [], refl, sym, ap, ◌∙◌, subst, inl, inr, true≢false, Some, Result, Ok, Err}
use Rattle.tape_core.specs.Devices.{inner_of}
use Rattle.tape_core.specs.Tape.{Tape}
use Rattle.tape_core.specs.declared.fault.Fault.TheVariants.{ReadFault, WriteFault}
use Rattle.tape_import.specs.Imported.{Import as Read}
use Rattle.tape_import.specs.ImportedFile.{IsImported, import_of}
use Rattle.tape_import.specs.Told.{losses_text}
use Rattle.tape_import.specs.declared.fault.ImportFault.{ImportFault}
use Rattle.tape_import.specs.declared.fault.ImportFault.TheVariants as of_import
use Rattle.tape_import.specs.declared.fault.ImportFault.TheVariants.{OutOfMemory}
use Rattle.tape_import.specs.declared.losses.Losses.{Losses}
use Rattle.tape_jobs.proofs.JobLemmas.{comes_by}
use Rattle.tape_jobs.proofs.TellingLemmas.{telling_unread, telling_written}
use Rattle.tape_jobs.specs.Endings.{Device, HasFailed, IsSound, Writers}
use Rattle.tape_jobs.specs.Importing.{ImportEnds, IsOfForm, OnFile}
use Rattle.tape_jobs.specs.Output.{Comes, ComesImported, ComesOf, Done, Files, HasNoForm, done_importing, fault_of_import, is_stopped, outcome_by, refused_in, refused_with, remakes}
use Rattle.tape_jobs.specs.Output.Remade.{Foreign}
use Rattle.tape_jobs.specs.Telling.{IsSilent, ThreeEnd}
use Rattle.tape_jobs.specs.declared.job.Ending.{Ending}
use Rattle.command_line.specs.declared.job.Job.{Job}
use Rattle.command_line.specs.declared.job.Job.TheVariants as jobs
use Rattle.tape_jobs.specs.declared.job.JobFault.{JobFault}
use Rattle.tape_jobs.specs.declared.job.JobFault.TheVariants.{Compressed, File, NoKnownForm}

-- the one job that imports
pub is_import : (job : Job) → remakes job ≡ Some Foreign → job ≡ jobs.Import
is_import jobs.Import e = refl
is_import job e = absurd (cc)

-- what importing comes to, where something is read of the file, and where nothing is
come_of : (read : Result Read ImportFault) (tape : Tape) (losses : Losses) → IsImported read tape losses
    → ComesOf read (done_importing tape losses) (losses_text losses)
come_of (Ok what) tape losses is = (tape, losses, is, refl, refl)
come_of (Err f) tape losses never = absurd never

pub comes_imported : (file : List ℕ) (tape : Tape) (losses : Losses) → IsImported (import_of file) tape losses
    → ComesImported file (done_importing tape losses) (losses_text losses)
comes_imported file tape losses is = come_of (import_of file) tape losses is

pub comes_formless : (file : List ℕ) (f : JobFault) → HasNoForm file f → ComesImported file (refused_with f) []
comes_formless file f (why, none, same) =
    subst (λ read. ComesOf read (refused_with f) []) (sym none) (ap refused_with same, refl)

-- why nothing is imported, where that isn't want of memory
module _ (why : ImportFault) (unstopped : is_stopped (Some (fault_of_import why)) ≡ false) where
  pub has_no_form : (file : List ℕ) → (why ≢ OutOfMemory → import_of file ≡ Err why) → HasNoForm file (fault_of_import why)
  has_no_form file none = (
    why,
    none (λ e. true≢false (sym (ap (λ w. is_stopped (Some (fault_of_import w))) e) ∙ unstopped)),
    refl,
  )

pub is_of_form : (why : ImportFault) → is_stopped (Some (fault_of_import why)) ≡ false → IsOfForm (Some (fault_of_import why))
is_of_form of_import.Compressed e = inl refl
is_of_form of_import.NoKnownForm e = inr refl
is_of_form of_import.OutOfMemory e = absurd (cc)

-- what the job comes to on files
pub job_imported : (job : Job) (files : Files) (tape : Tape) (losses : Losses) → remakes job ≡ Some Foreign
    → IsImported (import_of files.script) tape losses → Comes job files (done_importing tape losses)
job_imported job files tape losses asked is =
    comes_by job files (done_importing tape losses) (Some Foreign) asked
    (losses_text losses, comes_imported files.script tape losses is)

pub job_formless : (job : Job) (files : Files) (f : JobFault) → remakes job ≡ Some Foreign
    → HasNoForm files.script f → Comes job files (refused_in job f)
job_formless job files f asked has =
    let same : refused_with f ≡ refused_in job f = ap (λ j. refused_in j f) (sym (is_import job asked)) in
    comes_by job files (refused_in job f) (Some Foreign) asked
    ([], subst (λ d. ComesImported files.script d []) same (comes_formless files.script f has))

-- the outcome of a fault that stops nothing
outcome_at : (f : JobFault) → IsOfForm (Some f) → outcome_by (Err f) ≡ (refused_with f).outcome
outcome_at f (inl e) =
    let same : f ≡ Compressed = cc in
    subst (λ g. outcome_by (Err g) ≡ (refused_with g).outcome) (sym same) refl
outcome_at f (inr e) =
    let same : f ≡ NoKnownForm = cc in
    subst (λ g. outcome_by (Err g) ≡ (refused_with g).outcome) (sym same) refl

module _ {S O P L : Type 0} (reader : Device S) (writers : Writers O P) (told : Device L) where
  -- a file that isn't imported
  pub import_unread : (f : JobFault)
      → (is_stopped (Some f) ≡ false → (file : List ℕ) → reader.bytes (inner_of reader.old) ≡ Some file
      → HasNoForm file f)
      → (is_stopped (Some f) ≡ false → IsOfForm (Some f))
      → (f ≢ File ReadFault → IsSound reader) → (f ≡ File ReadFault → HasFailed reader)
      → f ≢ File WriteFault → IsSilent writers told → ImportEnds reader writers told (outcome_by (Err f))
  import_unread f formless is_form read failed other silent =
      telling_unread (IsSound reader) (HasFailed reader) (OnFile reader) IsOfForm writers told jobs.Import f
      (λ unstopped. (
        is_form unstopped,
        λ file held. (refused_with f, [], comes_formless file f (formless unstopped file held), outcome_at f (is_form unstopped)),
      )) read failed other silent

  -- one that is, as this
  module _ (tape : Tape) (losses : Losses)
      (on : (file : List ℕ) → reader.bytes (inner_of reader.old) ≡ Some file → IsImported (import_of file) tape losses)
      (read : IsSound reader) where
    on_file : (Is : Done → List ℕ → Type 0) → Is (done_importing tape losses) (losses_text losses) → OnFile reader Is
    on_file Is is = λ file held.
        (done_importing tape losses, losses_text losses, comes_imported file tape losses (on file held), is)

    pub import_written : (r : Result Ending JobFault)
        → ThreeEnd writers told jobs.Import (done_importing tape losses) (losses_text losses) r
        → ImportEnds reader writers told (outcome_by r)
    import_written =
        telling_written (IsSound reader) (HasFailed reader) (OnFile reader) IsOfForm writers told jobs.Import
        (done_importing tape losses) (losses_text losses) on_file read
