-- What is read of an asciicast as a whole.
use Rattle.std.specs.Prelude.{ℕ, List, codes, None}
use Rattle.json_bytes.specs.Values.{member_of}
use Rattle.tape_import.specs.Asciicast.{asciicast_of, date_of, header_of, sides_of, term_of, told_date, told_term}
use Rattle.tape_import.specs.AsciicastOne.{Ending, Named}
use Rattle.tape_import.specs.Imported.{Import, bytes_left, no_others, slow_at}
use Rattle.tape_import.specs.declared.asciicast.CastFront.{CastFront}
use Rattle.tape_import.specs.declared.facts.Facts.{Facts}
use Rattle.tape_import.specs.declared.losses.Losses.{Losses}
use Rattle.tape_import.specs.declared.losses.Place.TheVariants as place
use Rattle.tape_import.specs.declared.version.Version.{Version}

-- What was lost of it.
abbrev pub cast_losses : CastFront → Losses
cast_losses front = record {
  first = None;
  left = front.left;
  cut = None;
  slow = front.cast.outputs.slow;
  first_slow = slow_at place.Line front.cast.outputs;
  others = front.cast.others;
}

-- What it tells of itself: its header, and the size that stood before the first chunk.
abbrev pub cast_facts : Version → List ℕ → CastFront → Facts
cast_facts version text front = record {
  date = told_date (header_of text);
  term = told_term version (header_of text);
  size = front.cast.told;
}

-- An asciicast of version 2 or 3 is imported so.
abbrev pub import_of_cast : Version → List ℕ → Import
import_of_cast version text = record {
  facts = cast_facts version text (asciicast_of version text);
  chunks = (asciicast_of version text).cast.outputs.chunks;
  losses = cast_losses (asciicast_of version text);
}

-- What the members of version 1 tell is what a header of version 2 does, without a change of size.
abbrev pub one_facts : Named → Facts
one_facts named = record {
  date = date_of named.timestamp;
  term = term_of (member_of (codes "TERM") named.env);
  size = sides_of named.width named.height;
}

-- What was lost of it: entries are counted, and bytes.
abbrev pub one_losses : Ending → Losses
one_losses front = record {
  first = None;
  left = bytes_left front.read.count front.fault front.left;
  cut = None;
  slow = front.read.outputs.slow;
  first_slow = slow_at place.Event front.read.outputs;
  others = no_others;
}

-- An asciicast of version 1 is imported so.
abbrev pub import_of_one : Ending → Import
import_of_one front = record {
  facts = one_facts front.read.named;
  chunks = front.read.outputs.chunks;
  losses = one_losses front;
}
