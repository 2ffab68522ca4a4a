-- What mending comes to, and how it ends.
use Rattle.std.proofs.Common.{◌≡◌, ◌≢◌, ℕ, true, false, List, [], sym, ap, ◌∙◌, subst, Some, Result, Err, if◌then◌else◌}
use Rattle.tape_core.specs.Devices.{inner_of}
use Rattle.tape_core.specs.Faults.{is_stop}
use Rattle.tape_core.specs.Reading.{has_header}
use Rattle.tape_core.specs.declared.fault.Fault.{Fault}
use Rattle.tape_core.specs.declared.fault.Fault.TheVariants.{NoHeader, ReadFault, WriteFault}
use Rattle.tape_jobs.proofs.JobLemmas.{comes_by}
use Rattle.tape_jobs.proofs.TellingLemmas.{telling_unread, telling_written}
use Rattle.tape_jobs.specs.Endings.{Device, Writers}
use Rattle.tape_jobs.specs.Mending.{IsRead, IsUnread, MendEnds, OnPair, Pair, told_by, told_of}
use Rattle.tape_jobs.specs.Output.{Comes, Done, Files, done_mending, mended_by, outcome_by, refused_in, refused_with, remakes}
use Rattle.tape_jobs.specs.Output.Remade.{Remnants}
use Rattle.tape_jobs.specs.Telling.{IsSilent, ThreeEnd}
use Rattle.tape_jobs.specs.declared.job.Ending.{Ending}
use Rattle.command_line.specs.declared.job.Job.{Job}
use Rattle.command_line.specs.declared.job.Job.TheVariants as jobs
use Rattle.tape_jobs.specs.declared.job.JobFault.{JobFault}
use Rattle.tape_jobs.specs.declared.job.JobFault.TheVariants.{File}
use Rattle.tape_mend.specs.Mended.{Remains, mended, seen}
use Rattle.tape_mend.specs.declared.opening.Header.{Header}

-- the one job that mends
pub is_mend : (job : Job) (how : Header) → remakes job ≡ Some (Remnants how) → job ≡ jobs.Mend how
is_mend (jobs.Mend other) how e = let same : other ≡ how = cc in ap (λ h. jobs.Mend h) same
is_mend job how e = absurd (cc)

module _ (how : Header) (script timing : List ℕ) where
  -- where no line can be the header
  pub unmended : has_header (seen how script) ≡ false → mended_by how script timing ≡ refused_with (File NoHeader)
  unmended none = ap (λ b. if b then done_mending (mended how script timing) else refused_with (File NoHeader)) none

  module _ (remains : Remains) (some : has_header (seen how script) ≡ true) (e : mended how script timing ≡ remains) where
    pub remade : mended_by how script timing ≡ done_mending remains
    remade =
        ap (λ b. if b then done_mending (mended how script timing) else refused_with (File NoHeader)) some ∙ ap done_mending e

    pub retold : told_by how script timing ≡ told_of remains
    retold = ap (λ b. if b then told_of (mended how script timing) else []) some ∙ ap told_of e

-- what the job comes to on files
pub comes_remade : (job : Job) (how : Header) (files : Files) (remains : Remains) → remakes job ≡ Some (Remnants how)
    → (has_header (seen how files.script) ≡ true) × (mended how files.script files.timing ≡ remains)
    → Comes job files (done_mending remains)
comes_remade job how files remains asked known =
    comes_by job files (done_mending remains) (Some (Remnants how)) asked
    (sym (remade how files.script files.timing remains known.0 known.1))

pub comes_unmended : (job : Job) (how : Header) (files : Files) (f : Fault) → remakes job ≡ Some (Remnants how)
    → f ≡ NoHeader → has_header (seen how files.script) ≡ false → Comes job files (refused_in job (File f))
comes_unmended job how files f asked same none =
    comes_by job files (refused_in job (File f)) (Some (Remnants how)) asked
    (ap (λ j. refused_in j (File f)) (is_mend job how asked) ∙ ap (λ g. refused_with (File g)) same ∙ sym (unmended how files.script files.timing none))

module _ {S T O P L : Type 0} (pair : Pair S T) (writers : Writers O P) (told : Device L) (how : Header) where
  -- a pair that isn't read
  pub mend_unread : (f : Fault)
      → (is_stop f ≡ false → (f ≡ NoHeader)
      × ((s : List ℕ) → pair.script.bytes (inner_of pair.script.old) ≡ Some s → has_header (seen how s) ≡ false))
      → (f ≢ ReadFault → IsRead pair) → (f ≡ ReadFault → IsUnread pair)
      → f ≢ WriteFault → IsSilent writers told → MendEnds pair writers told how (outcome_by (Err (File f)))
  mend_unread f header read failed other silent =
      telling_unread (IsRead pair) (IsUnread pair) (OnPair pair how) (λ g. g ≡ Some (File NoHeader)) writers told (jobs.Mend how)
      (File f) (λ unstopped.
      let same = (header unstopped).0 in (
        ap (λ g. Some (File g)) same,
        λ script timing held held_timing. ap (λ g. outcome_by (Err (File g))) same
            ∙ ap (λ (d : Done). d.outcome) (sym (unmended how script timing ((header unstopped).1 script held))),
      ))
      (λ unlike. read (λ e. unlike (ap (λ g. File g) e))) (λ e. failed (cc)) (λ e. other (cc)) silent

  -- one that is, and of which this is left
  module _ (remains : Remains)
      (on : (s t : List ℕ) → pair.script.bytes (inner_of pair.script.old) ≡ Some s
      → pair.timing.bytes (inner_of pair.timing.old) ≡ Some t
      → (has_header (seen how s) ≡ true) × (mended how s t ≡ remains))
      (read : IsRead pair) where
    on_pair : (Is : Done → List ℕ → Type 0) → Is (done_mending remains) (told_of remains) → OnPair pair how Is
    on_pair Is is = λ s t held held_timing.
        let known = on s t held held_timing in
        subst (λ d. Is d (told_by how s t)) (sym (remade how s t remains known.0 known.1))
        (subst (λ x. Is (done_mending remains) x) (sym (retold how s t remains known.0 known.1)) is)

    pub mend_written : (r : Result Ending JobFault)
        → ThreeEnd writers told (jobs.Mend how) (done_mending remains) (told_of remains) r
        → MendEnds pair writers told how (outcome_by r)
    mend_written =
        telling_written (IsRead pair) (IsUnread pair) (OnPair pair how) (λ g. g ≡ Some (File NoHeader)) writers told
        (jobs.Mend how) (done_mending remains) (told_of remains) on_pair read
