-- What mending a pair of files comes to beside the pair, and how it ends (ours). A mending has the readers of the pair
-- alone, and three writers: of the new pair, and of what is told of it.
use Rattle.std.specs.Prelude.{◌≡◌, ℕ, ◌⊎◌, ◌++◌, List, [], ◌∷◌, length, codes, decimal, ◌==◌, ◌||◌, Bool, false, Option, Some, None, if◌then◌else◌}
use Rattle.tape_check.specs.Trailer.{is_usual}
use Rattle.tape_core.specs.Devices.{inner_of}
use Rattle.tape_core.specs.Reading.{has_header}
use Rattle.tape_core.specs.declared.fault.Fault.TheVariants as fault
use Rattle.tape_jobs.specs.Endings.{Device, HasFailed, IsSound, Writers}
use Rattle.tape_jobs.specs.Output.{Done, mended_by}
use Rattle.tape_jobs.specs.Telling.{TellingEnds}
use Rattle.command_line.specs.declared.job.Job.TheVariants.{Mend}
use Rattle.tape_jobs.specs.declared.job.JobFault.TheVariants.{File}
use Rattle.tape_jobs.specs.declared.job.Outcome.{Outcome}
use Rattle.tape_mend.specs.Front.{is_sudos}
use Rattle.tape_mend.specs.Mended.{Remains, mended, seen}
use Rattle.tape_mend.specs.Told.{losses_text}
use Rattle.tape_mend.specs.declared.losses.LinesLeft.{LinesLeft}
use Rattle.tape_mend.specs.declared.mended.Mended.{Mended}
use Rattle.tape_mend.specs.declared.opening.Header.{Header}

-- how many bytes behind the last chunk have no timing, where they are more than script's closing line (ours)
abbrev pub untimed_line : ℕ → List ℕ
untimed_line count = decimal count ++ (codes " bytes behind the last chunk have no timing" ++ 10 ∷ [])

abbrev pub untimed_text : List ℕ → List ℕ
untimed_text trailer = if is_usual trailer then [] else untimed_line (length trailer)

-- what is told of what is left: what was lost, and then the bytes that have no timing (ours)
abbrev pub told_of : Remains → List ℕ
told_of remains = losses_text remains.losses ++ untimed_text remains.tape.trailer

-- what is told of a pair of files that is mended; nothing where it isn't (ours)
abbrev pub told_by : Header → List ℕ → List ℕ → List ℕ
told_by how script timing = if has_header (seen how script) then told_of (mended how script timing) else []

-- a file of the pair may be another one than it is taken for: reading ended before line 1 of the timing, or the timing is
-- sudo's, whose logs are compressed more often than not (ours)
abbrev pub is_of_line_one : Option LinesLeft → Bool
is_of_line_one None = false
is_of_line_one (Some left) = left.line == 1

abbrev pub is_doubtful : List ℕ → Remains → Bool
is_doubtful timing remains = is_of_line_one remains.losses.lines || is_sudos timing

-- Private: what was read, as a plain value (ours)
abbrev pub remains_of : Mended → Remains
remains_of m = record { tape = m.recording; losses = m.losses }

-- the readers of a pair of files (ours)
pub record Pair (S T : Type 0) : Type 0 where
  pub script : Device S
  pub timing : Device T

abbrev pub pair_of : {S T : Type 0} → Device S → Device T → Pair S T
pair_of script timing = record { script = script; timing = timing }

-- neither reader has failed (ours)
abbrev pub IsRead : {S T : Type 0} → Pair S T → Type 0
IsRead pair = IsSound pair.script × IsSound pair.timing

-- one of them has (ours)
abbrev pub IsUnread : {S T : Type 0} → Pair S T → Type 0
IsUnread pair = HasFailed pair.script ⊎ HasFailed pair.timing

-- for all texts that the readers may have to tell, it is so of what mending them comes to, and of what is told of it
-- (ours)
abbrev pub OnPair : {S T : Type 0} → Pair S T → Header → (Done → List ℕ → Type 0) → Type 0
OnPair pair how P = (script timing : List ℕ)
    → pair.script.bytes (inner_of pair.script.old) ≡ Some script
    → pair.timing.bytes (inner_of pair.timing.old) ≡ Some timing
    → P (mended_by how script timing) (told_by how script timing)

-- how a mending ends: done, refused where no line can be the header, for want of memory, or as a device fails; and its
-- status (ours)
abbrev pub MendEnds : {S T O P L : Type 0} → Pair S T → Writers O P → Device L → Header → Outcome → Type 0
MendEnds pair writers told how outcome = TellingEnds (IsRead pair) (IsUnread pair) (OnPair pair how)
    (λ f. f ≡ Some (File fault.NoHeader)) writers told (Mend how) outcome
