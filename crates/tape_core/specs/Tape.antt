-- What a recording is: a header, chunks and a trailer, within the limits.
use Rattle.std.specs.Prelude.{◌≡◌, ℕ, ◌+◌, ◌≤◌, List, length, All, sum_by, ◌==◌}
use Rattle.std.specs.List.{flat_map, position_or_len}
use Rattle.tape_core.specs.declared.chunk.Chunk.{Chunk}

-- A recording as plain lists: the typescript's first line, the chunks that the timing counts, and all bytes after
-- them. script(1).
pub record Tape : Type 0 where
  pub header : List ℕ
  pub chunks : List Chunk
  pub trailer : List ℕ

-- The bytes of all chunks, one after another. script(1).
abbrev pub body : List Chunk → List ℕ
body chunks = flat_map (λ c. c.bytes) chunks

-- How many bytes the chunks hold together.
abbrev pub body_len : List Chunk → ℕ
body_len chunks = sum_by (λ c. length c.bytes) chunks

-- The limits of a recording (ours).
abbrev pub most_chunks : ℕ
most_chunks = 1000000

abbrev pub longest_chunk : ℕ
longest_chunk = 1048576

abbrev pub longest_body : ℕ
longest_body = 1073741824

-- In microseconds: a million seconds.
abbrev pub longest_delay : ℕ
longest_delay = 1000000000000

-- The text ends at its only LF. script(1): the header is the first line.
abbrev pub IsHeader : List ℕ → Type 0
IsHeader text = length text ≡ position_or_len (λ b. b == 10) text + 1

-- The recording's header is one line, and the limits hold. script(1); the limits are ours.
pub record fits (tape : Tape) : Type 0 where
  pub header : IsHeader tape.header
  pub few : length tape.chunks ≤ most_chunks
  pub delays : All (λ c. c.delay ≤ longest_delay) tape.chunks
  pub lengths : All (λ c. length c.bytes ≤ longest_chunk) tape.chunks
  pub bytes : body_len tape.chunks ≤ longest_body
