-- Private: what a timeline keeps beside its outputs, and what holds of them.
use Rattle.std.specs.Prelude.{◌≡◌, ℕ, ◌≤◌, All, IfSome, List, length}
use Rattle.std.specs.List.{AllPass}
use Rattle.tape_core.specs.Seconds.{last_moment}
use Rattle.tape_core.specs.Tape.{body_len, longest_body, longest_chunk, longest_delay, most_chunks}
use Rattle.tape_core.specs.declared.chunk.Chunk.{Chunk}
use Rattle.tape_import.specs.Dates.{last_second}
use Rattle.tape_import.specs.Facts.{is_term_byte}
use Rattle.tape_import.specs.Outputs.{Outputs}
use Rattle.tape_import.specs.declared.facts.Facts.{Facts}
use Rattle.tape_import.specs.declared.facts.Size.{Size}

-- The chunks are within the limits of a recording.
pub record AreWithin (chunks : List Chunk) : Type 0 where
  pub few : length chunks ≤ most_chunks
  pub delays : All (λ c. c.delay ≤ longest_delay) chunks
  pub lengths : All (λ c. length c.bytes ≤ longest_chunk) chunks
  pub small : body_len chunks ≤ longest_body

-- So are these, and the sum of their bytes is right.
pub record IsTimeline (outputs : Outputs) (bytes : ℕ) : Type 0 where
  pub within : AreWithin outputs.chunks
  pub sum : bytes ≡ body_len outputs.chunks
  pub moment : outputs.moment ≤ last_moment
  pub due : outputs.due ≤ outputs.moment
  pub slow : outputs.slow ≤ length outputs.chunks

-- Columns and lines have four digits at most.
pub record IsSize (size : Size) : Type 0 where
  pub columns : size.columns ≤ 9999
  pub lines : size.lines ≤ 9999

-- A header can tell all of this in one line.
pub record CanBeTold (facts : Facts) : Type 0 where
  pub date : IfSome facts.date (λ s. s ≤ last_second)
  pub term : IfSome facts.term (AllPass is_term_byte)
  pub size : IfSome facts.size IsSize
