-- Private: what is shown of an asciicast of version 1 that is read.
use Rattle.std.specs.Prelude.{List, ℕ, Option, Some}
use Rattle.std.specs.Option.{option_and_then}
use Rattle.json_bytes.specs.Values.{Json, found, value}
use Rattle.tape_import.specs.AsciicastOne.{Ending, Named, Reader, SoFar, whole}
use Rattle.tape_import.specs.declared.asciicast_one.CastOne.{CastOne}
use Rattle.tape_import.specs.declared.asciicast_one.FrontOne.{FrontOne}
use Rattle.tape_import.specs.declared.asciicast_one.Step.{Step}
use Rattle.tape_import.specs.declared.asciicast_one.Step.TheVariants as step
use Rattle.tape_import.specs.declared.places.Places.{Places}
use Rattle.std.specs.Borrow.{Bor}

-- The value that stands at a place.
abbrev pub value_at : Option (Bor (List ℕ)) → Option Json
value_at place = option_and_then (λ at. found (value 63 at.now)) place

abbrev pub named_at : Places → Named
named_at places = record {
  version = value_at places.version;
  width = value_at places.width;
  height = value_at places.height;
  env = value_at places.env;
  timestamp = value_at places.timestamp;
}

abbrev pub shown : CastOne → SoFar
shown cast = record { outputs = cast.outputs; count = cast.count; named = named_at cast.places }

abbrev pub shown_front : FrontOne → Ending
shown_front front = record { read = shown front.read; fault = front.fault; left = front.left }

-- How it goes on.
abbrev pub goes : Reader → SoFar → Step → Ending
goes more read (step.Next inside text) = more inside read text.now
goes more read step.Whole = whole read
goes more read (step.Ends fault left) = record { read = read; fault = Some fault; left = left }
