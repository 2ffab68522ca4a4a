-- What outputs come to as chunks, of whatever form a recording has.
use Rattle.std.specs.Prelude.{ℕ, Bool, ◌+◌, ◌-◌, List, [], ◌∷◌, ◌++◌, length, max, min, nat_le, nat_lt, ◌==◌, Option, Some, None, if◌then◌else◌}
use Rattle.std.specs.Option.{option_or}
use Rattle.tape_core.specs.Seconds.{last_moment}
use Rattle.tape_core.specs.Tape.{body_len, longest_body, longest_chunk, longest_delay, most_chunks}
use Rattle.tape_core.specs.declared.chunk.Chunk.{Chunk}
use Rattle.tape_import.specs.declared.fault.EventFault.{EventFault}
use Rattle.tape_import.specs.declared.fault.EventFault.TheVariants as event

-- The outputs so far: their chunks; the moment that was reached, in microseconds; when the last chunk was due; how many
-- delays were cut; and the number of the line, the entry or the record with the first of these.
pub record Outputs : Type 0 where
  pub chunks : List Chunk
  pub moment : ℕ
  pub due : ℕ
  pub slow : ℕ
  pub first_slow : Option ℕ

-- Nothing came yet.
abbrev pub none_yet : Outputs
none_yet = record { chunks = []; moment = 0; due = 0; slow = 0; first_slow = None }

-- So much time passes. No moment is above the last one (ours).
abbrev pub passed : ℕ → Outputs → Outputs
passed us so_far = record so_far { moment = min (so_far.moment + us) last_moment }

-- The moment is at least this one: no output is before the one that stands before it (ours).
abbrev pub reached : ℕ → Outputs → Outputs
reached us so_far = record so_far { moment = max so_far.moment (min us last_moment) }

-- The fault of an output of so many bytes, in the order in which they are tried: chunk too long, too many chunks, too
-- many bytes. One without bytes gives no chunk, and has none (ours).
abbrev pub output_fault : Outputs → ℕ → Option EventFault
output_fault so_far len =
    if len == 0 then None
    else if nat_lt longest_chunk len then Some event.ChunkTooLong
    else if nat_le most_chunks (length so_far.chunks) then Some event.TooManyChunks
    else if nat_lt longest_body (body_len so_far.chunks + len) then Some event.TooManyBytes
    else None

-- The time since the chunk before, since the start for the first one.
abbrev pub waited : Outputs → ℕ
waited so_far = so_far.moment - so_far.due

-- A delay above the limit is cut to it.
abbrev pub is_slow : Outputs → Bool
is_slow so_far = nat_lt longest_delay (waited so_far)

-- A chunk comes at this moment, in the line, the entry or the record of this number. Delays that are cut are counted, and
-- the place of the first one is told (ours).
abbrev pub with_chunk : ℕ → List ℕ → Outputs → Outputs
with_chunk number bytes so_far = record {
  chunks = so_far.chunks ++ record { delay = min (waited so_far) longest_delay; bytes = bytes } ∷ [];
  moment = so_far.moment;
  due = so_far.moment;
  slow = so_far.slow + (if is_slow so_far then 1 else 0);
  first_slow = option_or so_far.first_slow (if is_slow so_far then Some number else None);
}

-- An output comes: a chunk, but not without bytes, so that its time goes to the next one (ours).
abbrev pub with_output : ℕ → List ℕ → Outputs → Outputs
with_output number [] so_far = so_far
with_output number (b ∷ bs) so_far = with_chunk number (b ∷ bs) so_far
