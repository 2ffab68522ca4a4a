-- What the cast of a recording's output is imported as: all of it, and nothing is lost.
use Rattle.std.specs.Prelude.{◌≡◌, ℕ, ◌-◌, ◌<◌, ◌≤◌, All, false, List, [], ◌∷◌, length, slice_index_or, encode_utf8_all, Some, None}
use Rattle.output_cast.specs.Events.{Event, characters_of, events}
use Rattle.tape_core.specs.Due.{due_time}
use Rattle.tape_core.specs.Tape.{Tape, body, body_len, longest_body, longest_chunk, longest_delay, most_chunks}
use Rattle.tape_core.specs.declared.chunk.Chunk.{Chunk}
use Rattle.tape_import.specs.Facts.{IsHeaderOf}
use Rattle.tape_import.specs.Imported.{Import, no_others}
use Rattle.tape_import.specs.Told.{is_damaged, losses_text}
use Rattle.tape_import.specs.declared.facts.Facts.{Facts}
use Rattle.tape_import.specs.declared.losses.Losses.{Losses}

-- A size that import reads: from 1 to 9,999 columns and lines (ours).
pub record IsReadSize (columns lines : ℕ) : Type 0 where
  pub some_columns : 1 ≤ columns
  pub few_columns : columns ≤ 9999
  pub some_lines : 1 ≤ lines
  pub few_lines : lines ≤ 9999

-- Events as chunks, behind a moment: the text in UTF-8, and the time since the event before.
abbrev pub chunks_from : ℕ → List Event → List Chunk
chunks_from before [] = []
chunks_from before (event ∷ more) =
    record { delay = event.moment - before; bytes = encode_utf8_all event.text } ∷ chunks_from event.moment more

-- The events of a recording as chunks.
abbrev pub chunks_of : Tape → List Chunk
chunks_of tape = chunks_from 0 (events tape)

-- Chunks keep the limits of a recording.
pub record KeepLimits (chunks : List Chunk) : Type 0 where
  pub few : length chunks ≤ most_chunks
  pub delays : All (λ c. c.delay ≤ longest_delay) chunks
  pub lengths : All (λ c. length c.bytes ≤ longest_chunk) chunks
  pub bytes : body_len chunks ≤ longest_body

-- What a cast tells of itself: its size alone, no date and no terminal's name.
abbrev pub told : ℕ → ℕ → Facts
told columns lines =
    record { date = None; term = None; size = Some (record { columns = columns; lines = lines }) }

-- Nothing was lost.
abbrev pub no_losses : Losses
no_losses = record { first = None; left = None; cut = None; slow = 0; first_slow = None; others = no_others }

-- What is read of the cast of a recording: its size, its events as chunks, and nothing is lost.
abbrev pub read_of : ℕ → ℕ → Tape → Import
read_of columns lines tape =
    record { facts = told columns lines; chunks = chunks_of tape; losses = no_losses }

-- A recording that the cast of another one is imported as. Its header tells the size; its chunks are the events in
-- order, each due at the event's moment; its body is the old body's characters in UTF-8; its trailer is empty. Nothing
-- was lost, so nothing is told and nothing is damaged.
pub record IsWhole (columns lines : ℕ) (tape new : Tape) (losses : Losses) : Type 0 where
  pub header : IsHeaderOf (told columns lines) new.header
  pub chunks : new.chunks ≡ chunks_of tape
  pub due :
      (k : ℕ) (event : Event) → k < length (events tape)
      → due_time new.chunks k ≡ (slice_index_or (events tape) k event).moment
  pub body : body new.chunks ≡ encode_utf8_all (characters_of (body tape.chunks))
  pub trailer : new.trailer ≡ []
  pub lost : losses ≡ no_losses
  pub silent : losses_text losses ≡ []
  pub undamaged : is_damaged losses ≡ false
