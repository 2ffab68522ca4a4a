-- Private: what a recording keeps beside its lists, so that no reader adds up all delays again.
use Rattle.std.specs.Prelude.{◌≡◌, ℕ, ◌<◌, List, length, slice_index}
use Rattle.tape_core.specs.declared.chunk.Chunk.{Chunk}
use Rattle.tape_core.specs.Tape.{Tape, fits, body_len}
use Rattle.tape_core.specs.Due.{due_time}

-- These are the chunks' due times.
pub record AreDueTimes (chunks : List Chunk) (dues : List ℕ) : Type 0 where
  pub one_each : length dues ≡ length chunks
  pub times : (i : ℕ) → i < length chunks → slice_index dues i ≡ due_time chunks i

-- The recording fits, and its sums are right.
pub record IsSummed (tape : Tape) (dues : List ℕ) (bytes : ℕ) : Type 0 where
  pub fitting : fits tape
  pub due : AreDueTimes tape.chunks dues
  pub sum : bytes ≡ body_len tape.chunks
