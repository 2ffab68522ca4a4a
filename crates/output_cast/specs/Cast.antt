-- The cast of the recorded output: an asciicast, version 2 (doc/asciicast-v2.md of asciinema).
use Rattle.std.specs.Prelude.{ℕ, List, ◌++◌, codes, decimal}
use Rattle.std.specs.List.{flat_map}
use Rattle.tape_core.specs.Tape.{Tape}
use Rattle.tape_core.specs.Written.{seconds_form}
use Rattle.output_cast.specs.Events.{Event, events}
use Rattle.output_cast.specs.Json.{json_text}

-- the first line: the version and the size
unfoldable pub header_line : ℕ → ℕ → List ℕ
header_line columns lines =
    codes "{\"version\": 2, \"width\": " ++ decimal columns ++ codes ", \"height\": " ++ decimal lines ++ codes "}\n"

-- how an event of output begins, to its text ..
unfoldable pub event_opening : ℕ → List ℕ
event_opening moment = codes "[" ++ seconds_form moment ++ codes ", \"o\", \""

-- .. and how it ends
unfoldable pub event_closing : List ℕ
event_closing = codes "\"]\n"

-- the line of an event
abbrev pub event_line : Event → List ℕ
event_line event = event_opening event.moment ++ json_text event.text ++ event_closing

-- the cast of a recording, for a screen of so many columns and lines
unfoldable pub cast_text : ℕ → ℕ → Tape → List ℕ
cast_text columns lines tape = header_line columns lines ++ flat_map event_line (events tape)
