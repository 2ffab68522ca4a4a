-- The pair that a recording of another form is imported as, and what was lost.
use Rattle.std.specs.Prelude.{◌≡◌, ℕ, List, [], Option, Some, None, ◌==◌, if◌then◌else◌}
use Rattle.std.specs.Option.{option_map}
use Rattle.tape_core.specs.Tape.{Tape, fits}
use Rattle.tape_core.specs.declared.chunk.Chunk.{Chunk}
use Rattle.tape_import.specs.Dates.{dated}
use Rattle.tape_import.specs.Facts.{IsHeaderOf, reported_size}
use Rattle.tape_import.specs.Outputs.{Outputs}
use Rattle.tape_import.specs.Ttyrec.{data_of, seconds_of, ttyrec_of}
use Rattle.tape_import.specs.declared.facts.Facts.{Facts}
use Rattle.tape_import.specs.declared.fault.EventFault.{EventFault}
use Rattle.tape_import.specs.declared.losses.At.{At}
use Rattle.tape_import.specs.declared.losses.Left.{Left}
use Rattle.tape_import.specs.declared.losses.Losses.{Losses}
use Rattle.tape_import.specs.declared.losses.Others.{Others}
use Rattle.tape_import.specs.declared.losses.Place.{Place}
use Rattle.tape_import.specs.declared.losses.Place.TheVariants as place
use Rattle.tape_import.specs.declared.ttyrec.Front.{Front}

-- What is read of a file: what it tells of itself, its outputs as chunks, and what was lost.
pub record Import : Type 0 where
  pub facts : Facts
  pub chunks : List Chunk
  pub losses : Losses

-- It is imported as this recording, which fits the limits, and this was lost.
pub record Imports (what : Import) (tape : Tape) (losses : Losses) : Type 0 where
  pub fitting : fits tape
  pub header : IsHeaderOf what.facts tape.header
  pub chunks : tape.chunks ≡ what.chunks
  pub trailer : tape.trailer ≡ []
  pub lost : losses ≡ what.losses

-- No event was left out.
abbrev pub no_others : Others
no_others = record { inputs = 0; markers = 0; resizes = 0; others = 0 }

-- What is left out from a record on.
abbrev pub bytes_left : ℕ → Option EventFault → ℕ → Option Left
bytes_left number None count = None
bytes_left number (Some fault) count =
    Some (record { place = place.Event; number = number; fault = fault; count = count })

-- The line, the entry or the record of the first delay that was cut, where any was.
abbrev pub slow_at : Place → Outputs → Option At
slow_at place outputs = option_map (λ number. record { place = place; number = number }) outputs.first_slow

-- What was lost of a ttyrec.
abbrev pub ttyrec_losses : Front → Losses
ttyrec_losses front = record {
  first = None;
  left = bytes_left front.read.count front.fault front.left;
  cut = front.read.cut;
  slow = front.read.outputs.slow;
  first_slow = slow_at place.Event front.read.outputs;
  others = no_others;
}

-- What a ttyrec tells of itself: the first clock, and the size that its first record asks for, where that is read.
abbrev pub ttyrec_facts : List ℕ → Front → Facts
ttyrec_facts file front = record {
  date = dated (seconds_of file);
  term = None;
  size = if front.read.count == 0 then None else reported_size (data_of file);
}

-- A ttyrec is imported so.
abbrev pub import_of_ttyrec : List ℕ → Import
import_of_ttyrec file = record {
  facts = ttyrec_facts file (ttyrec_of file);
  chunks = (ttyrec_of file).read.outputs.chunks;
  losses = ttyrec_losses (ttyrec_of file);
}
