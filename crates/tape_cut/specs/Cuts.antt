-- What a cut leaves out of a recording, and what an excerpt keeps. In the place of what goes stands a text, in chunks that
-- are due at one moment (ours).
use Rattle.std.specs.Prelude.{ℕ, zero, suc, ◌+◌, ◌-◌, Bool, ◌&&◌, if◌then◌else◌, List, [], ◌∷◌, ◌++◌, Option, Some, None, filter, length, map, nat_le, nat_lt, take, drop}
use Rattle.std.specs.Int.{div_ceil}
use Rattle.tape_core.specs.declared.chunk.Chunk.{Chunk}
use Rattle.tape_core.specs.Edited.{with_chunks}
use Rattle.tape_core.specs.Tape.{Tape, longest_chunk}

-- ---- a text in pieces

-- a text in so many pieces, each of the most bytes but the last
abbrev pub pieces_of : ℕ → ℕ → List ℕ → List (List ℕ)
pieces_of most zero text = []
pieces_of most (suc count) text = take most text ∷ pieces_of most count (drop most text)

-- a text in pieces as long as a chunk can be: as few as there can be, so an empty text has none
unfoldable pub pieces : List ℕ → List (List ℕ)
pieces text = pieces_of longest_chunk (div_ceil (length text) longest_chunk) text

-- when the chunk is due that stands before the next one: a piece that came in at a moment, or else the old one
abbrev pub before_next : List (List ℕ) → ℕ → ℕ → ℕ
before_next [] old moment = old
before_next (piece ∷ more) old moment = moment

-- ---- chunks by when they are due

-- bytes that are due at a moment, in microseconds
pub record Timed : Type 0 where
  pub moment : ℕ
  pub bytes : List ℕ

-- the chunks, each with its moment, where the one before them is due at a moment
abbrev pub timed : ℕ → List Chunk → List Timed
timed before [] = []
timed before (chunk ∷ more) =
    record { moment = before + chunk.delay; bytes = chunk.bytes } ∷ timed (before + chunk.delay) more

-- chunks that are due so: a delay is what lies between two moments
abbrev pub chunks_of : ℕ → List Timed → List Chunk
chunks_of before [] = []
chunks_of before (at ∷ more) = record { delay = at.moment - before; bytes = at.bytes } ∷ chunks_of at.moment more

-- when all chunks of a recording are due
abbrev pub timed_chunks : Tape → List Timed
timed_chunks tape = timed 0 tape.chunks

-- the recording with what is due so in place of its chunks
abbrev pub with_timed : List Timed → Tape → Tape
with_timed timed tape = with_chunks (chunks_of 0 timed) tape

-- due by a moment; after it; after one moment and by another
abbrev pub is_by : ℕ → Timed → Bool
is_by to at = nat_le at.moment to

abbrev pub is_after : ℕ → Timed → Bool
is_after from at = nat_lt from at.moment

abbrev pub is_between : ℕ → ℕ → Timed → Bool
is_between from to at = is_after from at && is_by to at

-- so much earlier
abbrev pub earlier : ℕ → Timed → Timed
earlier by at = record { moment = at.moment - by; bytes = at.bytes }

-- a text in pieces that are all due at a moment
abbrev pub text_at : ℕ → List ℕ → List Timed
text_at moment text = map (λ piece. record { moment = moment; bytes = piece }) (pieces text)

-- ---- a cut

-- what is due after one moment and by another
abbrev pub stretch : ℕ → ℕ → Tape → List Timed
stretch from to tape = filter (is_between from to) (timed_chunks tape)

-- what comes in where something goes
abbrev pub in_place_of : List Timed → List Timed → List Timed
in_place_of [] new = []
in_place_of (gone ∷ more) new = new

-- Without what is due after `from` and by `to`: what is due by `from` stays; where a chunk goes the text comes in, due at
-- `from`; and what is due after `to` comes so much earlier. Where `to` is at most `from` nothing changes.
unfoldable pub cut_of : ℕ → ℕ → List ℕ → Tape → Tape
cut_of from to text tape =
    if nat_le to from
    then tape
    else with_timed
    (filter (is_by from) (timed_chunks tape)
    ++ in_place_of (stretch from to tape) (text_at from text)
    ++ map (earlier (to - from)) (filter (is_after to) (timed_chunks tape))) tape

-- ---- an excerpt

-- due after one moment, and by another one if it is given
abbrev pub is_kept : ℕ → Option ℕ → Timed → Bool
is_kept from None at = is_after from at
is_kept from (Some to) at = is_between from to at

-- Nothing but what is due after `from` and by `to`, which comes earlier by `from`, behind the text, which is due at once.
unfoldable pub excerpt_of : ℕ → Option ℕ → List ℕ → Tape → Tape
excerpt_of from to text tape =
    with_timed (text_at 0 text ++ map (earlier from) (filter (is_kept from to) (timed_chunks tape))) tape
