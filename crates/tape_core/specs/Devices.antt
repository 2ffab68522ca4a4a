-- What readers told and writers took, and whether they have failed (ours). The words for what became of a device:
--
--   ToldAll        a reader told all that it had
--   StopsReading   a reader wasn't read to its end, for this reason
--   Took           a writer has taken a text whole
--   TookPart       a writer has taken a beginning of a text, and then it has failed or it hasn't
--   Puts           a writer was given a text: it took it whole, or a write fault is told and it failed in it
--
-- A function that writes and has no fault but a write fault says what it puts by `Puts`.
use Rattle.std.specs.Prelude.{◌≡◌, ℕ, Bool, true, false, List, [], ◌∷◌, ◌++◌, Option, IfSome, Result, MatchResult, ◌||◌, length, nat_lt}
use Rattle.std.specs.Io.KnownBytes.{Appends, IsAtEnd}
use Rattle.tape_core.specs.declared.devices.Watched.{Watched}
use Rattle.tape_core.specs.declared.fault.Fault.{Fault}
use Rattle.tape_core.specs.declared.fault.Fault.TheVariants.{OutOfMemory, ReadFault, WriteFault}

-- the reader or the writer inside (ours)
abbrev pub inner_of : {T : Type 0} → Watched T → T
inner_of watched = watched.inner

-- whether it has failed (ours)
abbrev pub has_failed : {T : Type 0} → Watched T → Bool
has_failed watched = watched.failed

-- whether the writer was flushed without a fault, and nothing was put behind that, not even no bytes (ours)
abbrev pub is_flushed : {T : Type 0} → Watched T → Bool
is_flushed watched = watched.flushed

-- whether the writer has taken a byte (ours)
abbrev pub has_written : {T : Type 0} → Watched T → Bool
has_written watched = watched.written

-- the reader is sound, and this text is all that it had to tell (ours)
pub record ToldAll {T : Type 0} (remaining : T → Option (List ℕ)) (old new : Watched T) (text : List ℕ) : Type 0 where
  pub sound : has_failed new ≡ false
  pub whole : IfSome (remaining (inner_of old)) (λ left. text ≡ left)
  pub end : IsAtEnd (remaining (inner_of new))

-- a text isn't read to its end by a reader that failed, or for want of memory and by nothing else (ours)
abbrev pub StopsReading : Fault → Bool → Type 0
StopsReading ReadFault failed = failed ≡ true
StopsReading OutOfMemory failed = failed ≡ false
StopsReading _ failed = ⊥

-- the writer is sound, and has taken this text after what it held (ours)
pub record Took {T : Type 0} (contents : T → Option (List ℕ)) (old new : Watched T) (text : List ℕ) : Type 0 where
  pub sound : has_failed new ≡ false
  pub grown : Appends (contents (inner_of old)) (contents (inner_of new)) text
  pub written : has_written new ≡ (has_written old || nat_lt 0 (length text))

-- the writer has taken a beginning of this text after what it held, and then it has failed or it hasn't (ours)
pub record TookPart {T : Type 0} (contents : T → Option (List ℕ)) (old new : Watched T) (text : List ℕ) (failed : Bool)
    : Type 0 where
  pub failing : has_failed new ≡ failed
  pub front : List ℕ
  pub rest : List ℕ
  pub cut : text ≡ front ++ rest
  pub grown : Appends (contents (inner_of old)) (contents (inner_of new)) front

-- the writer was given this text: at Ok it has taken it whole, and at Err that is a write fault, and it has failed in
-- it (ours)
abbrev pub Puts : {T : Type 0} → (T → Option (List ℕ)) → Watched T → Watched T → List ℕ
    → Result (Unit {0}) Fault → Type 0
Puts contents old new text result = MatchResult result
    (λ done. Took contents old new text)
    (λ fault. (fault ≡ WriteFault) × TookPart contents old new text true)

-- a beginning of the text went out, all of it where the writer hasn't failed, and nothing where it had failed before
-- (ours)
pub record Outcome {T : Type 0} (contents : T → Option (List ℕ)) (old new : Watched T) (text : List ℕ) : Type 0 where
  pub front : List ℕ
  pub rest : List ℕ
  pub cut : text ≡ front ++ rest
  pub grown : Appends (contents (inner_of old)) (contents (inner_of new)) front
  pub whole : has_failed new ≡ false → (has_failed old ≡ false) × (rest ≡ [])
  pub written : has_failed new ≡ false → has_written new ≡ (has_written old || nat_lt 0 (length text))
  pub dropped : has_failed old ≡ true → front ≡ []

-- so that no tactic takes it apart (ours)
unfoldable pub HasOutcome : {T : Type 0} → (T → Option (List ℕ)) → Watched T → Watched T → List ℕ → Type 0
HasOutcome contents old new text = Outcome contents old new text

-- the writer was given this text, by calls that tell nothing (ours)
pub record Gave {T : Type 0} (contents : T → Option (List ℕ)) (old new : Watched T) (text : List ℕ) : Type 0 where
  pub outcome : HasOutcome contents old new text

-- these pieces, one after another (ours)
abbrev pub joined : List (List ℕ) → List ℕ
joined [] = []
joined (piece ∷ []) = piece
joined (piece ∷ next ∷ more) = piece ++ joined (next ∷ more)
