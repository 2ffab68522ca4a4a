-- Private: what single steps come to, in the contracts of functions that no other crate sees.
use Rattle.std.specs.Prelude.{◌≡◌, ℕ, ◌+◌, ◌-◌, ◌<◌, ◌≤◌, All, false, List, length, map, take, drop, Option, Some, None}
use Rattle.std.specs.Io.KnownBytes.{Consumes, IsAtEnd}
use Rattle.tape_core.specs.declared.chunk.Chunk.{Chunk}
use Rattle.tape_core.specs.declared.devices.Watched.{Watched}
use Rattle.tape_core.specs.declared.timing.Entry.{Entry}
use Rattle.tape_core.specs.Devices.{has_failed, inner_of}
use Rattle.tape_core.specs.Reading.{first_short}
use Rattle.tape_core.specs.Tape.{body, longest_body, most_chunks}
use Rattle.tape_core.specs.Text.{lines_of}
use Rattle.tape_core.specs.Timing.{IsWithin, counted_bytes, entries_of, timing_fault}

-- the reader is sound and has told the first `count` bytes of the piece, none only at the end (ours)
pub record Told {T : Type 0} (remaining : T → Option (List ℕ)) (old new : Watched T) (piece : List ℕ) (count : ℕ)
    : Type 0 where
  pub sound : has_failed new ≡ false
  pub within : count ≤ length piece
  pub told : Consumes (remaining (inner_of old)) (remaining (inner_of new)) (take count piece)
  pub end : count ≡ 0 → IsAtEnd (remaining (inner_of new))

-- The entry that times a chunk.
abbrev pub entry_for : Chunk → Entry
entry_for c = record { delay = c.delay; count = length c.bytes }

-- The limits of all entries together (ours).
pub record AreWithin (entries : List Entry) : Type 0 where
  pub few : length entries ≤ most_chunks
  pub each : All IsWithin entries
  pub bytes : counted_bytes entries ≤ longest_body

-- An entry is within the limits behind so many entries, which count so many bytes (ours).
pub record FitsAfter (entries bytes : ℕ) (entry : Entry) : Type 0 where
  pub few : entries < most_chunks
  pub small : bytes + entry.count ≤ longest_body
  pub within : IsWithin entry

-- The bytes behind a place of the script are cut into chunks as the timing counts them, which has no fault. Where fewer
-- bytes stand there than it counts, the chunks are those before the first that is short (ours).
pub record IsCut (script : List ℕ) (start : ℕ) (timing : List ℕ) (chunks : List Chunk) (bytes : ℕ) : Type 0 where
  pub faultless : timing_fault timing ≡ None
  pub within : AreWithin (entries_of (lines_of timing))
  pub counted : bytes ≡ counted_bytes (entries_of (lines_of timing))
  pub timed : bytes ≤ length script - start → map entry_for chunks ≡ entries_of (lines_of timing)
  pub joined : bytes ≤ length script - start → body chunks ≡ take bytes (drop start script)
  pub short : length script - start < bytes
      → first_short (length script - start) (entries_of (lines_of timing)) ≡ Some (length chunks)
