-- When chunks are due, and which bytes are due by a moment. Ours: a chunk is due at the sum of the delays up to its
-- own.
use Rattle.std.specs.Prelude.{ℕ, ◌+◌, List, length, take, drop, sum_by, count_by, filter, nat_le}
use Rattle.std.specs.List.{flat_map, range_with_len}
use Rattle.tape_core.specs.declared.chunk.Chunk.{Chunk}
use Rattle.tape_core.specs.Tape.{body}

-- The moment at which chunk i is due, in microseconds: the sum of delays 0 to i.
abbrev pub due_time : List Chunk → ℕ → ℕ
due_time chunks i = sum_by (λ c. c.delay) (take (i + 1) chunks)

-- The sum of all delays.
abbrev pub play_length : List Chunk → ℕ
play_length chunks = sum_by (λ c. c.delay) chunks

-- The indices of the chunks, counted from 0.
abbrev pub indices : List Chunk → List ℕ
indices chunks = range_with_len 0 (length chunks)

-- How many chunks are due by the moment: those whose due time is at most t.
unfoldable pub due_count : List Chunk → ℕ → ℕ
due_count chunks t = count_by (λ i. nat_le (due_time chunks i) t) (indices chunks)

-- The bytes of the chunk at an index, or none past the end.
abbrev pub bytes_at : List Chunk → ℕ → List ℕ
bytes_at chunks i = flat_map (λ c. c.bytes) (take 1 (drop i chunks))

-- The bytes due by the moment: those of the chunks whose due time is at most t, joined in order.
unfoldable pub due : List Chunk → ℕ → List ℕ
due chunks t = flat_map (bytes_at chunks) (filter (λ i. nat_le (due_time chunks i) t) (indices chunks))

-- The bytes of the first n chunks.
abbrev pub first : List Chunk → ℕ → List ℕ
first chunks n = body (take n chunks)
