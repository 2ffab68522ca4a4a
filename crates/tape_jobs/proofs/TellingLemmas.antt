-- How a job ends that writes both files anew and tells of it.
use Rattle.std.proofs.Common.{◌≡◌, ◌≢◌, ℕ, true, false, List, refl, sym, subst, inl, inr, Option, Some, Result, Ok, Err}
use Rattle.tape_core.specs.Devices.{Took}
use Rattle.tape_core.specs.declared.fault.Fault.TheVariants.{ReadFault, WriteFault}
use Rattle.tape_jobs.proofs.JobLemmas.{is_not, stops}
use Rattle.tape_jobs.specs.Endings.{Device, TookBoth, TookPartOfBoth, Writers}
use Rattle.tape_jobs.specs.Output.{Done, is_stopped, outcome_by}
use Rattle.tape_jobs.specs.Telling.{AWriterFailed, IsSilent, StoppedInThree, TellingEnds, ThreeEnd}
use Rattle.tape_jobs.specs.declared.job.Ending.{Ending}
use Rattle.command_line.specs.declared.job.Job.{Job}
use Rattle.tape_jobs.specs.declared.job.JobFault.{JobFault}
use Rattle.tape_jobs.specs.declared.job.JobFault.TheVariants.{File}

-- where a writer of both files stopped, it has failed
pub one_failed : {O P L : Type 0} (writers : Writers O P) (told : Device L) (done : Done) → TookPartOfBoth writers done true
    → AWriterFailed writers told
one_failed writers told done stopped = elim stopped [
  | inl (first, stays) ↦ inl first.failing
  | inr (whole, second) ↦ inr (inl second.failing)
]

module _ {O P L : Type 0} (Read Failed : Type 0) (On : (Done → List ℕ → Type 0) → Type 0) (IsRefusal : Option JobFault → Type 0)
    (writers : Writers O P) (told : Device L) (job : Job) where
  -- a job whose files aren't read
  pub telling_unread : (f : JobFault)
      → (is_stopped (Some f) ≡ false → IsRefusal (Some f) × On (λ done text. outcome_by (Err f) ≡ done.outcome))
      → (f ≢ File ReadFault → Read) → (f ≡ File ReadFault → Failed) → f ≢ File WriteFault → IsSilent writers told
      → TellingEnds Read Failed On IsRefusal writers told job (outcome_by (Err f))
  telling_unread f refusal read failed other silent = record {
    done = λ e. absurd (cc);
    refused = λ e.
        let unstopped = is_not _ e in
        let why = refusal unstopped in
        (read (λ r. stops f (File ReadFault) refl r unstopped), silent, why.0, why.1);
    memory = λ m. (
      read (λ r. elim m [
        | inl e ↦ cc
        | inr e ↦ cc
      ]),
      silent,
    );
    reader = λ e. (failed (cc), silent);
    writer = λ e. absurd (other (cc));
    status = refl;
  }

  -- one whose files are, which comes to this on them
  module _ (done : Done) (text : List ℕ) (on : (Is : Done → List ℕ → Type 0) → Is done text → On Is) (read : Read) where
    at_writer : AWriterFailed writers told → StoppedInThree writers told done text
        → TellingEnds Read Failed On IsRefusal writers told job (outcome_by (Err (File WriteFault)))
    at_writer failed stopped = record {
      done = λ e. absurd (cc);
      refused = λ e. absurd (cc);
      memory = λ m. elim m [
        | inl e ↦ absurd (cc)
        | inr e ↦ absurd (cc)
      ];
      reader = λ e. absurd (cc);
      writer = λ _. (failed, on (StoppedInThree writers told) stopped);
      status = refl;
    }

    pub telling_written : (r : Result Ending JobFault) → ThreeEnd writers told job done text r
        → TellingEnds Read Failed On IsRefusal writers told job (outcome_by r)
    telling_written (Ok ending) (is, took, flushed) = record {
      done = λ _. record {
        read = read;
        wrote = on
            (λ d t. (outcome_by (Ok ending) ≡ d.outcome) × TookBoth writers d × Took told.bytes told.old told.new t)
            (sym is.outcome, is.wrote, took);
        flushed = (is.flushed, is.flushed_timing);
        flushed_told = flushed;
      };
      refused = λ e. absurd (cc);
      memory = λ m. elim m [
        | inl e ↦ absurd (cc)
        | inr e ↦ absurd (cc)
      ];
      reader = λ e. absurd (cc);
      writer = λ e. absurd (cc);
      status = is.status;
    }
    telling_written (Err f) (e, failed, stopped) =
        subst (λ g. TellingEnds Read Failed On IsRefusal writers told job (outcome_by (Err g))) (sym e) (at_writer failed stopped)
