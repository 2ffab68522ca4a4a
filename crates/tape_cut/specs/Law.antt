-- What holds of every cut and of every excerpt: statements of the crate's laws.
use Rattle.std.specs.Prelude.{◌≡◌, ◌⊎◌, ℕ, ◌+◌, ◌-◌, ◌<◌, ◌≤◌, List, [], ◌++◌, Option, Some, None, IfSome, drop, length, map, max, min, take}
use Rattle.plays.specs.declared.plays.Plays.{Ghosts}
use Rattle.tape_core.specs.declared.chunk.Chunk.{Chunk}
use Rattle.tape_core.specs.Due.{due, due_count}
use Rattle.tape_core.specs.Tape.{Tape, fits}
use Rattle.tape_seek.specs.declared.edits.EditFault.{EditFault}
use Rattle.tape_seek.specs.declared.edits.EditFault.TheVariants.{TooManyChunks, TooManyBytes}
use Rattle.tape_seek.specs.Edits.{edited_all}
use Rattle.tape_cut.specs.CutEdits.{cut_edits, excerpt_edits, kept_end, first_fault, put_in}
use Rattle.tape_cut.specs.Cuts.{cut_of, excerpt_of, pieces}
use Rattle.tape_cut.specs.States.{SeenAlike}

-- what a recording has become: header and trailer stay, and its chunks have these bytes
pub record HasBytes (bytes : List (List ℕ)) (old new : Tape) : Type 0 where
  pub header : new.header ≡ old.header
  pub trailer : new.trailer ≡ old.trailer
  pub chunks : map (λ c. c.bytes) new.chunks ≡ bytes

-- the bytes of each chunk
abbrev pub bytes_of : List Chunk → List (List ℕ)
bytes_of chunks = map (λ c. c.bytes) chunks

-- the edits of a cut make the recording that it is by its moments, whatever the text
abbrev pub CutIsMade : Type 0
CutIsMade =
    (from to : ℕ) (text : List ℕ) (tape : Tape)
    → edited_all tape (cut_edits from to text tape) ≡ cut_of from to text tape

-- where `to` is at most `from` there are none
abbrev pub NothingIsCut : Type 0
NothingIsCut = (from to : ℕ) (text : List ℕ) (tape : Tape) → to ≤ from → cut_edits from to text tape ≡ []

-- and so do those of an excerpt
abbrev pub ExcerptIsMade : Type 0
ExcerptIsMade =
    (from : ℕ) (to : Option ℕ) (text : List ℕ) (tape : Tape)
    → edited_all tape (excerpt_edits from to text tape) ≡ excerpt_of from to text tape

-- what a cut makes of a recording: the chunks that stay have their bytes, as header and trailer do
abbrev pub CutKeepsTheRest : Type 0
CutKeepsTheRest =
    (from to : ℕ) (text : List ℕ) (tape : Tape) → from < to
    → let first = due_count tape.chunks from in
    let end = due_count tape.chunks to in
    HasBytes (bytes_of (take first tape.chunks) ++ put_in first end text ++ bytes_of (drop end tape.chunks)) tape
    (edited_all tape (cut_edits from to text tape))

-- and so do those that an excerpt keeps
abbrev pub ExcerptKeepsTheRest : Type 0
ExcerptKeepsTheRest =
    (from : ℕ) (to : Option ℕ) (text : List ℕ) (tape : Tape)
    → let first = due_count tape.chunks from in
    HasBytes (pieces text ++ bytes_of (drop first (take (kept_end tape.chunks from to) tape.chunks))) tape
    (edited_all tape (excerpt_edits from to text tape))

-- A cut doesn't show. Before `from` the same bytes are due as ever. From `from` on the same is seen as so much later of
-- the old recording, and sent is what was sent by `from` and what was sent after `to`.
pub record CutIsUnseen {T P K : Type 0} (p : Ghosts T P K) (profile : P) (from to : ℕ) (old new : Tape) : Type 0 where
  pub before : (t : ℕ) → t < from → due new.chunks t ≡ due old.chunks t
  pub after : (t : ℕ) → from ≤ t
      → SeenAlike p profile (due new.chunks t) (due old.chunks (t + (to - from)))
  pub reports : (t : ℕ) → from ≤ t
      → p.sent profile (due new.chunks t)
      ≡ p.sent profile (due old.chunks from)
      ++ drop (length (p.sent profile (due old.chunks to))) (p.sent profile (due old.chunks (t + (to - from))))

-- the moment of the old recording that an excerpt shows at a moment: `from` and so much later, but not past `to`, or not
-- past `from` where `to` is below it
abbrev pub moment_kept : ℕ → Option ℕ → ℕ → ℕ
moment_kept from None t = from + t
moment_kept from (Some to) t = min (from + t) (max from to)

-- Nor does an excerpt: at each moment the same is seen as at that moment of the old recording, and sent is what was sent
-- after `from`.
pub record ExcerptIsUnseen {T P K : Type 0} (p : Ghosts T P K) (profile : P) (from : ℕ) (to : Option ℕ) (old new : Tape)
    : Type 0 where
  pub seen : (t : ℕ) → SeenAlike p profile (due new.chunks t) (due old.chunks (moment_kept from to t))
  pub reports : (t : ℕ)
      → p.sent profile (due new.chunks t)
      ≡ drop (length (p.sent profile (due old.chunks from))) (p.sent profile (due old.chunks (moment_kept from to t)))

-- a fault is one of the limits of a recording
abbrev pub IsALimit : EditFault → Type 0
IsALimit fault = (fault ≡ TooManyChunks) ⊎ (fault ≡ TooManyBytes)

-- of a recording that fits, no other fault can come
abbrev pub OnlyLimitsRefuse : Type 0
OnlyLimitsRefuse =
    (from to : ℕ) (text : List ℕ) (tape : Tape) → 0 < length text → fits tape
    → IfSome (first_fault tape (cut_edits from to text tape)) IsALimit

abbrev pub OnlyLimitsRefuseAnExcerpt : Type 0
OnlyLimitsRefuseAnExcerpt =
    (from : ℕ) (to : Option ℕ) (text : List ℕ) (tape : Tape) → fits tape
    → IfSome (first_fault tape (excerpt_edits from to text tape)) IsALimit
