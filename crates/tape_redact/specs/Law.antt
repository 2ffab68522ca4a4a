-- What holds of redacted bytes, and of a recording whose bytes change: statements of the crate's laws.
use Rattle.std.specs.Prelude.{◌≡◌, ℕ, ◌+◌, ◌<◌, ◌==◌, true, false, List, ◌++◌, length, map, slice_index}
use Rattle.std.specs.List.{All}
use Rattle.tape_core.specs.declared.chunk.Chunk.{Chunk}
use Rattle.tape_core.specs.Reading.{fault_of, reads}
use Rattle.tape_core.specs.Tape.{Tape}
use Rattle.tape_core.specs.Written.{script_text, timing_text}
use Rattle.tape_redact.specs.Recording.{cut, recut}
use Rattle.tape_redact.specs.Redacted.{begins_at, is_covered, redacted}

-- nothing else changes, and each byte of an occurrence does
pub record HidesAll (text bytes : List ℕ) : Type 0 where
  pub long : length (redacted text bytes) ≡ length bytes
  pub hidden : (at b : ℕ) → begins_at text bytes b ≡ true → at < length text → b + at < length bytes
      → slice_index (redacted text bytes) (b + at) ≡ 42
  pub kept : (at : ℕ) → at < length bytes → is_covered text bytes at ≡ false
      → slice_index (redacted text bytes) at ≡ slice_index bytes at

-- a text that has a byte, and no *, is nowhere in the bytes then
abbrev pub NoneIsLeft : Type 0
NoneIsLeft = (text bytes front rest : List ℕ) → 0 < length text → All (λ b. (b == 42) ≡ false) text
    → redacted text bytes ≡ front ++ text ++ rest → ⊥

-- two scripts of one length, with LF at the same places
pub record SameLines (old new : List ℕ) : Type 0 where
  pub long : length new ≡ length old
  pub ends : map (λ b. b == 10) new ≡ map (λ b. b == 10) old

-- a text without LF leaves them there
abbrev pub LinesStay : Type 0
LinesStay = (text bytes : List ℕ) → All (λ b. (b == 10) ≡ false) text → SameLines bytes (redacted text bytes)

-- with other bytes it is read as that recording, or with the same fault
pub record ReadsAlike : Type 0 where
  pub faults : (old new timing : List ℕ) → SameLines old new → fault_of new timing ≡ fault_of old timing
  pub recordings : (old new timing : List ℕ) (tape : Tape) → SameLines old new → reads old timing tape
      → reads new timing (recut tape new)

-- which has the same delays and counts
pub record TimesStay : Type 0 where
  pub delays : (chunks : List Chunk) (bytes : List ℕ) → map (λ c. c.delay) (cut chunks bytes) ≡ map (λ c. c.delay) chunks
  pub counts : (old new timing : List ℕ) (tape : Tape) → SameLines old new → reads old timing tape
      → map (λ c. length c.bytes) (recut tape new).chunks ≡ map (λ c. length c.bytes) tape.chunks

-- both files of a recording whose bytes are cut from another script: that script, and the old timing where it is as long
pub record WrittenAnew : Type 0 where
  pub script : (tape : Tape) (script : List ℕ) → script_text (recut tape script) ≡ script
  pub timing : (tape : Tape) (script : List ℕ) → length script ≡ length (script_text tape)
      → timing_text (recut tape script) ≡ timing_text tape
