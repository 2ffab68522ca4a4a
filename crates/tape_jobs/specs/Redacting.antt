-- What taking a text out of a pair of files comes to, and how it ends (ours). It has the readers of the pair alone, and
-- four writers: of the new pair, of how often the text was taken out, and of where it still stands.
use Rattle.std.specs.Prelude.{◌≡◌, ℕ, ◌⊎◌, ◌++◌, Bool, true, false, List, [], ◌∷◌, codes, decimal, Option, Some, None, MatchOption, Result, Ok, MatchResult}
use Rattle.screen_print.specs.EachByte.{has_ink}
use Rattle.tape_check.specs.Lines.{note_line}
use Rattle.tape_core.specs.Devices.{Took, TookPart, inner_of, is_flushed}
use Rattle.tape_core.specs.Reading.{fault_of, reads}
use Rattle.tape_core.specs.Seconds.{last_moment}
use Rattle.tape_core.specs.Tape.{Tape}
use Rattle.tape_core.specs.declared.fault.Fault.{Fault}
use Rattle.tape_core.specs.declared.fault.Fault.TheVariants as fault
use Rattle.tape_jobs.specs.Endings.{AsksNothing, Device, HasFailed, IsUnwritten, TookBoth, TookPartOfBoth, Writers, is_of_input}
use Rattle.tape_jobs.specs.Mending.{IsRead, Pair}
use Rattle.tape_jobs.specs.Notes.{IsTold, was_read}
use Rattle.tape_jobs.specs.Output.{IsDoneStatus, count_of_text, done_redacting, done_with, lines_left, outcome_in, status_in, without_text}
use Rattle.tape_jobs.specs.Player.{NowhereFor, played_of}
use Rattle.tape_jobs.specs.declared.job.Ending.{Ending}
use Rattle.command_line.specs.declared.job.Job.TheVariants.{Redact}
use Rattle.tape_jobs.specs.declared.job.JobFault.{JobFault}
use Rattle.tape_jobs.specs.declared.job.JobFault.TheVariants.{File, Memory}
use Rattle.tape_jobs.specs.declared.job.Outcome.{Outcome}
use Rattle.command_line.specs.declared.player.Player.{Player}

-- how often the text was taken out, as a line (ours)
abbrev pub count_line : ℕ → List ℕ
count_line count = codes "redacted " ++ decimal count ++ 10 ∷ []

-- for all texts that the readers may have to tell, they are read as a recording of which it is so (ours)
abbrev pub OnRecording : {S T : Type 0} → Pair S T → (Tape → Type 0) → Type 0
OnRecording pair P = (script timing : List ℕ)
    → pair.script.bytes (inner_of pair.script.old) ≡ Some script
    → pair.timing.bytes (inner_of pair.timing.old) ≡ Some timing
    → (tape : Tape) × reads script timing tape × P tape

-- for all such texts the pair has this fault (ours)
abbrev pub HasFault : {S T : Type 0} → Pair S T → Option JobFault → Type 0
HasFault pair told = (script timing : List ℕ)
    → pair.script.bytes (inner_of pair.script.old) ≡ Some script
    → pair.timing.bytes (inner_of pair.timing.old) ≡ Some timing
    → (f : Fault) × (told ≡ Some (File f)) × (fault_of script timing ≡ Some f)

-- nothing was written (ours)
abbrev pub IsUntold : {O P L F : Type 0} → Writers O P → Device L → Device F → Type 0
IsUntold writers told found = IsUnwritten writers × AsksNothing told × AsksNothing found

-- all four texts have gone out whole and were flushed (ours)
pub record TookFour {O P L F : Type 0} (writers : Writers O P) (told : Device L) (found : Device F)
    (player : Player) (text : List ℕ) (tape : Tape) : Type 0 where
  pub pair : TookBoth writers (done_redacting player text tape)
  pub count : Took told.bytes told.old told.new (count_line (count_of_text text tape))
  pub places : Took found.bytes found.old found.new (lines_left player text tape)

pub record AreAllFlushed {O P L F : Type 0} (writers : Writers O P) (told : Device L) (found : Device F) : Type 0 where
  pub out : is_flushed writers.out.new ≡ true
  pub out_timing : is_flushed writers.out_timing.new ≡ true
  pub count : is_flushed told.new ≡ true
  pub places : is_flushed found.new ≡ true

-- a beginning of the four texts, one behind another, has gone out, and then the writer in which it ends has failed or it
-- hasn't: nothing is told before both files are whole (ours)
abbrev pub StoppedInFour : {O P L F : Type 0} → Writers O P → Device L → Device F → Player → List ℕ → Tape → Bool → Type 0
StoppedInFour writers told found player text tape failed =
    let done = done_redacting player text tape in
    let line = count_line (count_of_text text tape) in
    (TookPartOfBoth writers done failed × AsksNothing told × AsksNothing found)
    ⊎ (TookBoth writers done
    × ((TookPart told.bytes told.old told.new line failed × AsksNothing found)
    ⊎ (Took told.bytes told.old told.new line
    × TookPart found.bytes found.old found.new (lines_left player text tape) failed)))

-- Private: both writers of a pair were given these texts, the second when the first was whole: at Ok they have taken
-- them whole, and at Err the one in which a beginning of them ends has failed (ours)
abbrev pub PairPuts : {O P : Type 0} → Writers O P → List ℕ → List ℕ → Result (Unit {0}) JobFault → Type 0
PairPuts writers script timing result = MatchResult result
    (λ done. TookBoth writers (done_with script timing)
    × (is_flushed writers.out.new ≡ true) × (is_flushed writers.out_timing.new ≡ true))
    (λ f. (f ≡ File fault.WriteFault) × TookPartOfBoth writers (done_with script timing) true)

-- Private: how writing the new pair and telling of it ends (ours)
abbrev pub FourEnd : {O P L F : Type 0} → Writers O P → Device L → Device F → Player → List ℕ → Tape
    → Result Ending JobFault → Type 0
FourEnd writers told found player text tape result = MatchResult result
    (λ ending. TookFour writers told found player text tape × AreAllFlushed writers told found
    × (outcome_in (Redact player) (Ok ending) ≡ (done_redacting player text tape).outcome))
    (λ f. ((f ≡ Memory) × StoppedInFour writers told found player text tape false)
    ⊎ ((f ≡ File fault.WriteFault) × StoppedInFour writers told found player text tape true))

-- how redacting ends: done, refused, for want of memory, or as a device fails; its status; with status 0 the text stands
-- nowhere on the screen of the new recording, after no byte of its chunks; and the note of the recording that was read
-- (ours)
pub record RedactEnds {S T O P L F N : Type 0} (pair : Pair S T) (writers : Writers O P) (told : Device L)
    (found : Device F) (notes : Device N) (player : Player) (text : List ℕ) (outcome : Outcome) : Type 0 where
  pub done : outcome.fault ≡ None
      → IsRead pair × AreAllFlushed writers told found
      × OnRecording pair (λ tape. (outcome ≡ (done_redacting player text tape).outcome)
      × TookFour writers told found player text tape)
  pub refused : is_of_input outcome.fault ≡ true
      → IsRead pair × IsUntold writers told found × HasFault pair outcome.fault
  pub memory : outcome.fault ≡ Some Memory
      → IsRead pair × OnRecording pair (λ tape. StoppedInFour writers told found player text tape false)
  pub reading : outcome.fault ≡ Some (File fault.OutOfMemory) → IsRead pair × IsUntold writers told found
  pub reader : outcome.fault ≡ Some (File fault.ReadFault)
      → (HasFailed pair.script ⊎ HasFailed pair.timing) × IsUntold writers told found
  pub writer : outcome.fault ≡ Some (File fault.WriteFault)
      → IsRead pair × OnRecording pair (λ tape. StoppedInFour writers told found player text tape true)
  pub status : MatchOption outcome.fault (IsDoneStatus (Redact player) outcome.status)
      (λ f. outcome.status ≡ status_in (Redact player) f)
  pub nowhere : outcome.status ≡ 0 → has_ink text ≡ true
      → OnRecording pair (λ tape. NowhereFor (played_of player tape) (without_text text tape) None last_moment text)
  pub noted : was_read outcome.fault ≡ true
      → OnRecording pair (λ tape. IsTold notes.bytes notes.old notes.new (note_line (played_of player tape) 0 tape))
  pub silent : was_read outcome.fault ≡ false → AsksNothing notes
