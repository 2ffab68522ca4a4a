-- What each edit makes of a recording, by its list of chunks. Header and trailer stay (ours).
use Rattle.std.specs.Prelude.{ℕ, ◌+◌, List, ◌∷◌, ◌++◌, map, min, take, drop}
use Rattle.tape_core.specs.declared.chunk.Chunk.{Chunk}
use Rattle.tape_core.specs.Tape.{Tape}

-- The recording with other chunks.
abbrev pub with_chunks : List Chunk → Tape → Tape
with_chunks chunks tape = record tape { chunks = chunks }

-- The chunks, with the one at this index changed.
abbrev pub changed_at : (Chunk → Chunk) → ℕ → List Chunk → List Chunk
changed_at change at chunks = take at chunks ++ map change (take 1 (drop at chunks)) ++ drop (at + 1) chunks

-- A chunk comes in before chunk `at`, at the end where `at` is their number (ours).
abbrev pub inserted : ℕ → Chunk → Tape → Tape
inserted at chunk tape = with_chunks (take at tape.chunks ++ chunk ∷ drop at tape.chunks) tape

-- The chunks from `from` up to and without `to` go, delays and all (ours).
abbrev pub removed : ℕ → ℕ → Tape → Tape
removed from to tape = with_chunks (take from tape.chunks ++ drop to tape.chunks) tape

-- A chunk gets other bytes and keeps its delay (ours).
abbrev pub replaced : ℕ → List ℕ → Tape → Tape
replaced at bytes tape = with_chunks (changed_at (λ c. record c { bytes = bytes }) at tape.chunks) tape

-- A chunk gets another delay and keeps its bytes (ours).
abbrev pub retimed : ℕ → ℕ → Tape → Tape
retimed at delay tape = with_chunks (changed_at (λ c. record c { delay = delay }) at tape.chunks) tape

-- The chunk with a delay of at most `max`.
abbrev pub capped_chunk : ℕ → Chunk → Chunk
capped_chunk max c = record c { delay = min c.delay max }

-- Each delay above `max` becomes `max` (ours).
abbrev pub capped : ℕ → Tape → Tape
capped max tape = with_chunks (map (capped_chunk max) tape.chunks) tape
