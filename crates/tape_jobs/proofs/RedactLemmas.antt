-- What taking a text out of a pair of files comes to, and how it ends.
use Rattle.std.proofs.Common.{◌≡◌, ◌≢◌, ◌⊎◌, ℕ, Bool, true, false, List, refl, sym, ap, ◌∙◌, subst, inl, inr, None, Some, Result, Ok, Err}
use Rattle.tape_check.specs.Lines.{note_line}
use Rattle.tape_core.specs.Devices.{inner_of}
use Rattle.tape_core.specs.Faults.{is_stop}
use Rattle.tape_core.specs.Reading.{fault_of, reads}
use Rattle.tape_core.specs.Seconds.{last_moment}
use Rattle.tape_core.specs.Tape.{Tape}
use Rattle.tape_core.specs.declared.fault.Fault.{Fault}
use Rattle.tape_core.specs.declared.fault.Fault.TheVariants as fault
use Rattle.tape_jobs.proofs.JobLemmas.{is_not, stops}
use Rattle.tape_jobs.proofs.NowhereLemmas.{no_text}
use Rattle.tape_jobs.specs.Endings.{AsksNothing, Device, HasFailed, Writers}
use Rattle.tape_jobs.specs.Mending.{IsRead, Pair}
use Rattle.tape_jobs.specs.Notes.{IsTold, is_write_fault}
use Rattle.tape_jobs.specs.Output.{IsDoneStatus, done_redacting, ending_of_redact, lines_left, outcome_in, status_after, without_text}
use Rattle.tape_jobs.specs.Player.{NowhereFor, NowhereMeansNowhere, played_of}
use Rattle.tape_jobs.specs.Redacting.{FourEnd, IsUntold, OnRecording, RedactEnds, StoppedInFour, TookFour}
use Rattle.tape_jobs.specs.declared.job.Ending.{Ending}
use Rattle.tape_jobs.specs.declared.job.Ending.TheVariants.{Clean, WithRefusals, WithNotes, WithLosses, WithNothing, WithTraces}
use Rattle.command_line.specs.declared.job.Job.TheVariants.{Redact}
use Rattle.tape_jobs.specs.declared.job.JobFault.{JobFault}
use Rattle.tape_jobs.specs.declared.job.JobFault.TheVariants.{File, Memory}
use Rattle.command_line.specs.declared.player.Player.{Player}

-- where a redaction has status 0, no find line was written
unfound : (fit found : Bool) → status_after (ending_of_redact fit found) ≡ 0 → found ≡ false
unfound false found e = absurd (cc)
unfound true false e = refl
unfound true true e = absurd (cc)

-- the one fault of files that comes behind reading
write_fault : (f : Fault) → is_write_fault f ≡ true → f ≡ fault.WriteFault
write_fault fault.WriteFault e = refl
write_fault _ e = absurd (cc)

-- how a job ends has status 0 or 1
pub done_status : (player : Player) (ending : Ending) → IsDoneStatus (Redact player) (status_after ending)
done_status player Clean = inl refl
done_status player WithRefusals = inr refl
done_status player WithNotes = inr refl
done_status player WithLosses = inr refl
done_status player WithNothing = inr refl
done_status player WithTraces = inr refl

module _ {S T O P L F N : Type 0} (pair : Pair S T) (writers : Writers O P) (told : Device L) (found : Device F) (notes : Device N)
    (player : Player) (text : List ℕ) where
  -- a pair that isn't read
  pub redact_unread : (f : Fault)
      → (is_stop f ≡ false → (s t : List ℕ) → pair.script.bytes (inner_of pair.script.old) ≡ Some s
      → pair.timing.bytes (inner_of pair.timing.old) ≡ Some t → fault_of s t ≡ Some f)
      → (f ≢ fault.ReadFault → IsRead pair) → (f ≡ fault.ReadFault → HasFailed pair.script ⊎ HasFailed pair.timing)
      → f ≢ fault.WriteFault → IsUntold writers told found → AsksNothing notes
      → RedactEnds pair writers told found notes player text (outcome_in (Redact player) (Err (File f)))
  redact_unread f faulty read failed other silent unasked = record {
    done = λ e. absurd (cc);
    refused = λ e.
        let unstopped = is_not _ e in (
          read (λ r. stops (File f) (File fault.ReadFault) refl (ap (λ x. File x) r) unstopped),
          silent,
          λ s t held held_timing. (f, refl, faulty unstopped s t held held_timing),
        );
    memory = λ e. absurd (cc);
    reading = λ e. (read (λ r. cc), silent);
    reader = λ e. (failed (cc), silent);
    writer = λ e. absurd (other (cc));
    status = refl;
    nowhere = λ e. absurd (cc);
    noted = λ e. absurd (other (write_fault f e));
    silent = λ _. unasked;
  }

  -- one that is, as this recording
  module _ (tape : Tape)
      (on : (s t : List ℕ) → pair.script.bytes (inner_of pair.script.old) ≡ Some s
      → pair.timing.bytes (inner_of pair.timing.old) ≡ Some t → reads s t tape)
      (read : IsRead pair) (note : IsTold notes.bytes notes.old notes.new (note_line (played_of player tape) 0 tape)) where
    on_recording : (Is : Tape → Type 0) → Is tape → OnRecording pair Is
    on_recording Is is = λ s t held held_timing. (tape, on s t held held_timing, is)

    on_note : OnRecording pair (λ x. IsTold notes.bytes notes.old notes.new (note_line (played_of player x) 0 x))
    on_note = on_recording (λ x. IsTold notes.bytes notes.old notes.new (note_line (played_of player x) 0 x)) note

    for_memory : StoppedInFour writers told found player text tape false
        → RedactEnds pair writers told found notes player text (outcome_in (Redact player) (Err Memory))
    for_memory stopped = record {
      done = λ e. absurd (cc);
      refused = λ e. absurd (cc);
      memory = λ _. (read, on_recording (λ x. StoppedInFour writers told found player text x false) stopped);
      reading = λ e. absurd (cc);
      reader = λ e. absurd (cc);
      writer = λ e. absurd (cc);
      status = refl;
      nowhere = λ e. absurd (cc);
      noted = λ _. on_note;
      silent = λ e. absurd (cc);
    }

    at_writer : StoppedInFour writers told found player text tape true
        → RedactEnds pair writers told found notes player text (outcome_in (Redact player) (Err (File fault.WriteFault)))
    at_writer stopped = record {
      done = λ e. absurd (cc);
      refused = λ e. absurd (cc);
      memory = λ e. absurd (cc);
      reading = λ e. absurd (cc);
      reader = λ e. absurd (cc);
      writer = λ _. (read, on_recording (λ x. StoppedInFour writers told found player text x true) stopped);
      status = refl;
      nowhere = λ e. absurd (cc);
      noted = λ _. on_note;
      silent = λ e. absurd (cc);
    }

    pub redact_written : (r : Result Ending JobFault) → FourEnd writers told found player text tape r → NowhereMeansNowhere
        → RedactEnds pair writers told found notes player text (outcome_in (Redact player) r)
    redact_written (Ok ending) (took, flushed, same) law = record {
      done = λ _. (
        read,
        flushed,
        on_recording
            (λ x. (outcome_in (Redact player) (Ok ending) ≡ (done_redacting player text x).outcome) × TookFour writers told found player text x)
            (same, took),
      );
      refused = λ e. absurd (cc);
      memory = λ e. absurd (cc);
      reading = λ e. absurd (cc);
      reader = λ e. absurd (cc);
      writer = λ e. absurd (cc);
      status = done_status player ending;
      nowhere = λ e ink.
          let clean = sym (ap (λ o. o.status) same) ∙ e in
          let none = no_text (lines_left player text tape) (unfound _ _ clean) in
          on_recording (λ x. NowhereFor (played_of player x) (without_text text x) None last_moment text)
          (law player tape (without_text text tape) None last_moment text ink none);
      noted = λ _. on_note;
      silent = λ e. absurd (cc);
    }
    redact_written (Err f) ends law = elim ends [
      | inl (e, stopped) ↦
          subst (λ g. RedactEnds pair writers told found notes player text (outcome_in (Redact player) (Err g))) (sym e) (for_memory stopped)
      | inr (e, stopped) ↦
          subst (λ g. RedactEnds pair writers told found notes player text (outcome_in (Redact player) (Err g))) (sym e) (at_writer stopped)
    ]
