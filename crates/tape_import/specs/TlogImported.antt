-- What is read of a recording of tlog as a whole.
use Rattle.std.specs.Prelude.{ℕ, List, nat_lt, Option, Some, None, if◌then◌else◌}
use Rattle.std.specs.Option.{option_and_then}
use Rattle.tape_core.specs.Text.{lines_of}
use Rattle.tape_import.specs.Asciicast.{header_number}
use Rattle.tape_import.specs.Imported.{Import, slow_at}
use Rattle.tape_import.specs.Tlog.{log_of}
use Rattle.tape_import.specs.declared.facts.Facts.{Facts}
use Rattle.tape_import.specs.declared.facts.Size.{Size}
use Rattle.tape_import.specs.declared.losses.Late.{Late}
use Rattle.tape_import.specs.declared.losses.Losses.{Losses}
use Rattle.tape_import.specs.declared.losses.Place.TheVariants as place
use Rattle.tape_import.specs.declared.tlog.LogFront.{LogFront}
use Rattle.tape_import.specs.declared.tlog_message.Head.{Head}

-- The number of the first message, where it isn't the first of its recording, and its line.
abbrev pub late : ℕ → Head → Option Late
late line head = if nat_lt 1 head.number then Some (record { number = head.number; line = line }) else None

-- What was lost of it.
abbrev pub log_losses : List ℕ → LogFront → Losses
log_losses text front = record {
  first = option_and_then (late (header_number (lines_of text))) front.log.first;
  left = front.left;
  cut = None;
  slow = front.log.cast.outputs.slow;
  first_slow = slow_at place.Line front.log.cast.outputs;
  others = front.log.cast.others;
}

-- What it tells of itself: what its first message tells, and the size that stood before the first chunk.
abbrev pub facts_by : Option Head → Option Size → Facts
facts_by None size = record { date = None; term = None; size = size }
facts_by (Some head) size = record { date = head.date; term = head.term; size = size }

abbrev pub log_facts : LogFront → Facts
log_facts front = facts_by front.log.first front.log.cast.told

-- A recording of tlog is imported so.
abbrev pub import_of_tlog : List ℕ → Import
import_of_tlog text = record {
  facts = log_facts (log_of text);
  chunks = (log_of text).log.cast.outputs.chunks;
  losses = log_losses text (log_of text);
}
