-- What holds of every recording and of every text: statements of the crate's laws.
use Rattle.std.specs.Prelude.{◌≡◌, ℕ, ◌+◌, ◌<◌, ◌≤◌, ◌^◌, ◌↔◌, List, ◌++◌, Some, length, slice_index_or}
use Rattle.std.specs.Fmt.{decimal}
use Rattle.tape_core.specs.declared.chunk.Chunk.{Chunk}
use Rattle.tape_core.specs.Edited.{capped, inserted, removed, replaced, retimed}
use Rattle.tape_core.specs.Due.{bytes_at, due_count, due_time, first}
use Rattle.tape_core.specs.Seconds.{IsSeconds, last_moment, seconds_of}
use Rattle.tape_core.specs.Tape.{Tape}
use Rattle.tape_core.specs.Text.{IsWord, number_of}
use Rattle.tape_core.specs.Written.{seconds_form}

-- a chunk is due by a moment just where its index is below the count of those due
abbrev pub DueIsBelowTheCount : Type 0
DueIsBelowTheCount = (chunks : List Chunk) (t i : ℕ) → i < length chunks
    → ((due_time chunks i ≤ t) ↔ (i < due_count chunks t))

-- the first chunks and one more are the first chunks' bytes and those of the next
pub record FirstGrowsByAChunk : Type 0 where
  pub at : (chunks : List Chunk) (n : ℕ) → first chunks (n + 1) ≡ first chunks n ++ bytes_at chunks n
  pub of : (chunks : List Chunk) (n : ℕ) (chunk : Chunk) → n < length chunks
      → slice_index_or chunks n chunk ≡ chunk → first chunks (n + 1) ≡ first chunks n ++ chunk.bytes

-- an edit of the chunks leaves the bytes of those before its index as they were, and an edit of delays all bytes
pub record FirstIsKept : Type 0 where
  pub inserted : (tape : Tape) (at n : ℕ) (chunk : Chunk) → n ≤ at → at ≤ length tape.chunks
      → first (inserted at chunk tape).chunks n ≡ first tape.chunks n
  pub removed : (tape : Tape) (from to n : ℕ) → n ≤ from → from ≤ length tape.chunks
      → first (removed from to tape).chunks n ≡ first tape.chunks n
  pub replaced : (tape : Tape) (at n : ℕ) (bytes : List ℕ) → n ≤ at
      → first (replaced at bytes tape).chunks n ≡ first tape.chunks n
  pub retimed : (tape : Tape) (at delay n : ℕ) → first (retimed at delay tape).chunks n ≡ first tape.chunks n
  pub capped : (tape : Tape) (max n : ℕ) → first (capped max tape).chunks n ≡ first tape.chunks n

-- numbers below 2^64 are written as a word of digits, and read back
pub record NumbersReadBack : Type 0 where
  pub word : (n : ℕ) → n < 2 ^ 64 → IsWord (decimal n)
  pub read : (n : ℕ) → n < 2 ^ 64 → number_of (decimal n) ≡ Some n

-- microseconds below 2^64, written as seconds, are a word and spelled seconds with that value; those up to the greatest
-- moment are read back
pub record SecondsReadBack : Type 0 where
  pub word : (us : ℕ) → us < 2 ^ 64 → IsWord (seconds_form us)
  pub spelled : (us : ℕ) → us < 2 ^ 64 → IsSeconds (seconds_form us) us
  pub read : (us : ℕ) → us ≤ last_moment → seconds_of (seconds_form us) ≡ Some us
