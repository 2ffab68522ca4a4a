-- Private: what single steps come to, in the contracts of functions that no other crate sees.
use Rattle.std.specs.Prelude.{◌≡◌, ℕ, ◌≤◌, All, List, drop, length, take, true, Option, Some, None, Result, Ok, Err, codes, min, sum_by}
use Rattle.tape_core.specs.Reading.{has_header, header_len}
use Rattle.tape_core.specs.Seconds.{last_moment}
use Rattle.tape_core.specs.Tape.{longest_body, longest_chunk, longest_delay, most_chunks}
use Rattle.tape_mend.specs.declared.counting.Behind.{Behind}
use Rattle.tape_mend.specs.declared.counting.Piece.{Piece}
use Rattle.tape_mend.specs.declared.counting.Piece.TheVariants as piece
use Rattle.tape_mend.specs.declared.line.Line.{Line}
use Rattle.tape_mend.specs.declared.line.LineFault.{LineFault}
use Rattle.tape_mend.specs.declared.line.LineFault.TheVariants as line
use Rattle.tape_mend.specs.declared.taken.Taken.{Taken as Held}
use Rattle.tape_mend.specs.Taken.{Taken, chunk_count, piece_len}

-- A line whose delay and count are at most the greatest moment (ours).
abbrev pub capped : Result (Option Line) LineFault → Result (Option Line) LineFault
capped (Err fault) = Err fault
capped (Ok None) = Ok None
capped (Ok (Some said)) =
    Ok (Some (record said { delay = min said.delay last_moment; count = min said.count last_moment }))

-- Its delay and its count are.
pub record IsSmall (said : Line) : Type 0 where
  pub delay : said.delay ≤ last_moment
  pub count : said.count ≤ last_moment

-- What lines come to is within the limits (ours).
pub record IsSound (behind : Behind) : Type 0 where
  pub outputs : behind.outputs ≤ most_chunks
  pub bytes : behind.bytes ≤ longest_body
  pub waited : behind.waited ≤ longest_delay
  pub inputs : behind.inputs ≤ behind.lines
  pub signals : behind.signals ≤ behind.lines
  pub pipes : behind.pipes ≤ behind.lines
  pub resizes : behind.resizes ≤ behind.lines

-- A part of the body is within the limits of a chunk (ours).
abbrev pub IsPiece : Piece → Type 0
IsPiece (piece.Output entry) = (entry.delay ≤ longest_delay) × (entry.count ≤ longest_chunk)
IsPiece (piece.Input count) = count ≤ longest_chunk

-- All parts together are within the limits of a recording (ours).
pub record ArePieces (pieces : List Piece) : Type 0 where
  pub few : chunk_count pieces ≤ most_chunks
  pub each : All IsPiece pieces
  pub bytes : sum_by piece_len pieces ≤ longest_body

-- What was taken of a script: its chunks, and a place behind which the rest stands (ours).
pub record IsTaken (script : List ℕ) (held : Held) (told : Taken) : Type 0 where
  pub chunks : told.chunks ≡ held.chunks.items
  pub cut : told.cut ≡ held.cut
  pub left : told.left ≡ held.left
  pub within : held.rest ≤ length script
  pub rest : told.rest ≡ drop held.rest script

-- A header, and a place in the script behind which the rest of this typescript stands (ours).
pub record IsOpening (typescript script first : List ℕ) (start : ℕ) : Type 0 where
  pub some : has_header typescript ≡ true
  pub header : first ≡ take (header_len typescript) typescript
  pub within : start ≤ length script
  pub rest : drop start script ≡ drop (header_len typescript) typescript

-- What the text of a line's fault has behind the number.
abbrev pub what_is_wrong : LineFault → List ℕ
what_is_wrong line.BadStream = codes ": bad stream"
what_is_wrong line.BadDelay = codes ": bad delay"
what_is_wrong line.BadCount = codes ": bad count"
what_is_wrong line.MultiStream = codes ": multi-stream format"
what_is_wrong line.DelayTooLarge = codes ": delay too large"
what_is_wrong line.ChunkTooLong = codes ": chunk too long"
what_is_wrong line.TooManyChunks = codes ": too many chunks"
what_is_wrong line.TooManyBytes = codes ": too many bytes"
