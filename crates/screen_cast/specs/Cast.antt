-- A cast: a recording as an asciicast, version 2 (doc/asciicast-v2.md of asciinema).
use Rattle.std.specs.Prelude.{ℕ, List, ◌++◌, codes}
use Rattle.std.specs.List.{flat_map}
use Rattle.tape_core.specs.Tape.{Tape}
use Rattle.tape_core.specs.Written.{seconds_form}
use Rattle.vt_term.specs.declared.profile.Profile.{Profile}
use Rattle.screen_print.specs.Stills.{Still}
use Rattle.screen_cast.specs.Events.{Event, EventKind, Output, Resize, events, events_of}
use Rattle.screen_cast.specs.Json.{json}

-- the first line: the version, and the size of the screen before the first chunk
unfoldable pub header_line : List ℕ
header_line = codes "{\"version\": 2, \"width\": 80, \"height\": 24}\n"

-- the code of a kind
abbrev pub code_of : EventKind → List ℕ
code_of Output = codes "o"
code_of Resize = codes "r"

-- how an event begins, to its text: its moment in seconds, and the code of its kind ..
unfoldable pub event_opening : ℕ → EventKind → List ℕ
event_opening moment kind =
    codes "[" ++ seconds_form moment ++ codes ", \"" ++ code_of kind ++ codes "\", \""

-- .. and how it ends
unfoldable pub event_closing : List ℕ
event_closing = codes "\"]\n"

-- the line of an event
abbrev pub event_line : Event → List ℕ
event_line event = event_opening event.moment event.kind ++ json event.text ++ event_closing

-- the lines of a chunk's events
unfoldable pub chunk_text : ℕ → ℕ → Still → Still → List ℕ
chunk_text index due before after = flat_map event_line (events_of due before after)

-- the cast of a recording, as a terminal of a profile plays it
unfoldable pub cast_text : Profile → Tape → List ℕ
cast_text profile tape = header_line ++ flat_map event_line (events profile tape)
