-- What an edit makes of a recording, and why one is refused.
use Rattle.std.specs.Prelude.{ℕ, ◌≤◌, Bool, false, ◌||◌, List, [], ◌∷◌, Option, Some, None, find, fold, length, nat_lt, nat_le}
use Rattle.hex.specs.Hex.{IsBytes}
use Rattle.tape_core.specs.Seconds.{last_moment}
use Rattle.tape_core.specs.Tape.{Tape, body_len, most_chunks, longest_chunk, longest_body, longest_delay}
use Rattle.tape_core.specs.Edited.{inserted, removed, replaced, retimed, capped}
use Rattle.tape_seek.specs.declared.edits.Edit.{Edit}
use Rattle.tape_seek.specs.declared.edits.Edit.TheVariants.{Insert, Delete, Replace, Retime, Cap}
use Rattle.tape_seek.specs.declared.edits.EditFault.{EditFault}
use Rattle.tape_seek.specs.declared.edits.EditFault.TheVariants.{NoSuchChunk, DelayTooLarge, ChunkTooLong, TooManyChunks, TooManyBytes, BadRange, OutOfMemory, BadLine}

-- The recording after one edit.
abbrev pub edited : Tape → Edit → Tape
edited tape (Insert at delay bytes) = inserted at (record { delay = delay; bytes = bytes }) tape
edited tape (Delete from to) = removed from to tape
edited tape (Replace at bytes) = replaced at bytes tape
edited tape (Retime at delay) = retimed at delay tape
edited tape (Cap max) = capped max tape

-- The recording after a list of edits, one after another.
abbrev pub edited_all : Tape → List Edit → Tape
edited_all tape edits = fold edited tape edits

-- ---- the table of faults: each with the edits that have it

-- It names a place past the end. An insert may name the end itself.
abbrev pub names_no_chunk : Tape → Edit → Bool
names_no_chunk tape (Insert at delay bytes) = nat_lt (length tape.chunks) at
names_no_chunk tape (Replace at bytes) = nat_le (length tape.chunks) at
names_no_chunk tape (Retime at delay) = nat_le (length tape.chunks) at
names_no_chunk tape _ = false

-- Its delay is longer than a delay can be.
abbrev pub delays_too_long : Edit → Bool
delays_too_long (Insert at delay bytes) = nat_lt longest_delay delay
delays_too_long (Retime at delay) = nat_lt longest_delay delay
delays_too_long (Cap max) = nat_lt longest_delay max
delays_too_long _ = false

-- It has more bytes than a chunk can have.
abbrev pub has_too_many_bytes : Edit → Bool
has_too_many_bytes (Insert at delay bytes) = nat_lt longest_chunk (length bytes)
has_too_many_bytes (Replace at bytes) = nat_lt longest_chunk (length bytes)
has_too_many_bytes _ = false

-- It adds a chunk to a recording that can have no more.
abbrev pub adds_a_chunk_too_many : Tape → Edit → Bool
adds_a_chunk_too_many tape (Insert at delay bytes) = nat_le most_chunks (length tape.chunks)
adds_a_chunk_too_many tape _ = false

-- With its bytes the body would be longer than one can be.
abbrev pub makes_the_body_too_long : Tape → Edit → Bool
makes_the_body_too_long tape (Insert at delay bytes) =
    nat_lt longest_body (body_len (edited tape (Insert at delay bytes)).chunks)
makes_the_body_too_long tape (Replace at bytes) =
    nat_lt longest_body (body_len (edited tape (Replace at bytes)).chunks)
makes_the_body_too_long tape _ = false

-- Its range is empty, or goes past the end.
abbrev pub has_a_bad_range : Tape → Edit → Bool
has_a_bad_range tape (Delete from to) = nat_le to from || nat_lt (length tape.chunks) to
has_a_bad_range tape _ = false

-- Whether the edit has the fault. Want of memory and lines of no known form are faults of no edit (ours).
abbrev pub has_fault : Tape → Edit → EditFault → Bool
has_fault tape edit NoSuchChunk = names_no_chunk tape edit
has_fault tape edit DelayTooLarge = delays_too_long edit
has_fault tape edit ChunkTooLong = has_too_many_bytes edit
has_fault tape edit TooManyChunks = adds_a_chunk_too_many tape edit
has_fault tape edit TooManyBytes = makes_the_body_too_long tape edit
has_fault tape edit BadRange = has_a_bad_range tape edit
has_fault tape edit OutOfMemory = false
has_fault tape edit BadLine = false

-- The order in which faults are judged (ours).
abbrev pub judged : List EditFault
judged = NoSuchChunk ∷ DelayTooLarge ∷ ChunkTooLong ∷ TooManyChunks ∷ TooManyBytes ∷ BadRange ∷ []

-- Why an edit of the recording is refused: the first fault that it has, or none.
abbrev pub edit_fault : Tape → Edit → Option EditFault
edit_fault tape edit = find (has_fault tape edit) judged

-- The first chunk that an edit touches, if it touches the bytes of any: what was played of the chunks before it stays.
abbrev pub first_touched : Edit → Option ℕ
first_touched (Insert at delay bytes) = Some at
first_touched (Delete from to) = Some from
first_touched (Replace at bytes) = Some at
first_touched (Retime at delay) = None
first_touched (Cap max) = None

-- The bytes that an edit brings.
abbrev pub bytes_in : Edit → List ℕ
bytes_in (Insert at delay bytes) = bytes
bytes_in (Replace at bytes) = bytes
bytes_in _ = []

-- Its places and delays are at most 10^18, as the numbers of a request line are.
abbrev pub HasShortNumbers : Edit → Type 0
HasShortNumbers (Insert at delay bytes) = (at ≤ last_moment) × (delay ≤ last_moment)
HasShortNumbers (Delete from to) = (from ≤ last_moment) × (to ≤ last_moment)
HasShortNumbers (Replace at bytes) = at ≤ last_moment
HasShortNumbers (Retime at delay) = (at ≤ last_moment) × (delay ≤ last_moment)
HasShortNumbers (Cap max) = max ≤ last_moment

-- A log can hold it: its line is read as the edit. Its bytes are below 256, which a list of numbers doesn't say by
-- itself.
pub record CanBeLogged (edit : Edit) : Type 0 where
  pub numbers : HasShortNumbers edit
  pub bytes : IsBytes (bytes_in edit)
