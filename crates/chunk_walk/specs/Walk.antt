-- A walk over the chunks of a recording: what is written of each of them, told by the bytes that the terminal was played
-- before it and by its end (ours).
use Rattle.std.specs.Prelude.{ℕ, ◌+◌, Bool, ◌&&◌, List, filter, Option, None, Some, nat_lt, nat_le}
use Rattle.std.specs.List.{flat_map}
use Rattle.tape_core.specs.Due.{due_time, first, indices}
use Rattle.tape_core.specs.Tape.{Tape}

-- due by a moment, and after another one if it is given
abbrev pub is_asked : Option ℕ → ℕ → ℕ → Bool
is_asked None to due = nat_le due to
is_asked (Some from) to due = nat_lt from due && nat_le due to

-- the chunks that are asked for, in order
abbrev pub asked_places : Tape → Option ℕ → ℕ → List ℕ
asked_places tape from to =
    filter (λ index. is_asked from to (due_time tape.chunks index)) (indices tape.chunks)

-- what is written of a chunk, by the terminal's profile, the chunk's place, when it is due, and all bytes that were
-- played before it and by its end
abbrev pub TextOfChunk : Type 0 → Type 0
TextOfChunk P = P → ℕ → ℕ → List ℕ → List ℕ → List ℕ

-- what is written of the chunk at this place of a recording
abbrev pub text_of : {P : Type 0} → TextOfChunk P → P → Tape → ℕ → List ℕ
text_of text profile tape index =
    text profile index (due_time tape.chunks index) (first tape.chunks index) (first tape.chunks (index + 1))

-- what is written of all chunks
unfoldable pub all_texts : {P : Type 0} → TextOfChunk P → P → Tape → List ℕ
all_texts text profile tape = flat_map (text_of text profile tape) (indices tape.chunks)

-- what is written of the chunks that are asked for
unfoldable pub asked_texts : {P : Type 0} → TextOfChunk P → P → Tape → Option ℕ → ℕ → List ℕ
asked_texts text profile tape from to = flat_map (text_of text profile tape) (asked_places tape from to)
