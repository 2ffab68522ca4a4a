-- An asciicast of version 2 or 3: a header and events, a JSON text in each line. asciinema's asciicast v2 and v3.
use Rattle.std.specs.Prelude.{ℕ, ◌+◌, ◌-◌, Bool, false, ◌&&◌, ◌||◌, List, [], ◌∷◌, codes, length, nat_eq, nat_le, ◌==◌, Option, Some, None, if◌then◌else◌}
use Rattle.std.specs.Cmp.Lexicographic.{pointwise}
use Rattle.std.specs.List.{list_all}
use Rattle.std.specs.Option.{option_and_then, option_map}
use Rattle.json_bytes.specs.Marks.{begins, past_space}
use Rattle.json_bytes.specs.Numbers.{plain_digits, scaled}
use Rattle.json_bytes.specs.Values.{Json, json_of, member_of, number_of, string_of, triple_of}
use Rattle.tape_core.specs.Text as digits
use Rattle.tape_core.specs.Text.{lines_of}
use Rattle.tape_import.specs.Dates.{dated}
use Rattle.tape_import.specs.Facts.{is_term_byte, parted, side, size_of}
use Rattle.tape_import.specs.Imported.{no_others}
use Rattle.tape_import.specs.Outputs.{Outputs, none_yet, output_fault, passed, reached, with_output}
use Rattle.tape_import.specs.declared.asciicast.Cast.{Cast}
use Rattle.tape_import.specs.declared.asciicast.CastFront.{CastFront}
use Rattle.tape_import.specs.declared.event.Event.{Event}
use Rattle.tape_import.specs.declared.event.What.{What}
use Rattle.tape_import.specs.declared.event.What.TheVariants as what
use Rattle.tape_import.specs.declared.facts.Size.{Size}
use Rattle.tape_import.specs.declared.fault.EventFault.{EventFault}
use Rattle.tape_import.specs.declared.fault.EventFault.TheVariants as event
use Rattle.tape_import.specs.declared.losses.Left.{Left}
use Rattle.tape_import.specs.declared.losses.Place.TheVariants as place
use Rattle.tape_import.specs.declared.version.Version.{Version}
use Rattle.tape_import.specs.declared.version.Version.TheVariants as version

-- A text is this word.
abbrev pub is_word : List ℕ → List ℕ → Bool
is_word word text = pointwise nat_eq text word

-- A line of space alone tells nothing (ours), nor does a comment of version 3.
abbrev pub is_blank_line : List ℕ → Bool
is_blank_line line = length (past_space line) == 0

abbrev pub is_skipped : Version → List ℕ → Bool
is_skipped version.Two line = is_blank_line line
is_skipped version.Three line = is_blank_line line || begins 35 line

-- The header is the first line that isn't space alone; the lines behind it.
abbrev pub header_line : List (List ℕ) → List ℕ
header_line [] = []
header_line (line ∷ more) = if is_blank_line line then header_line more else line

abbrev pub past_header : List (List ℕ) → List (List ℕ)
past_header [] = []
past_header (line ∷ more) = if is_blank_line line then past_header more else more

-- The version is a number that is written so.
abbrev pub version_by : Option (List ℕ) → Option Version
version_by None = None
version_by (Some digits) =
    if is_word (codes "2") digits then Some version.Two
    else if is_word (codes "3") digits then Some version.Three
    else None

abbrev pub version_of : Option Json → Option Version
version_of header = version_by (option_and_then plain_digits (number_of (member_of (codes "version") header)))

-- A number of digits that may be a terminal's columns or lines.
abbrev pub side_of : Option Json → Option ℕ
side_of value = side (option_and_then digits.number_of (option_and_then plain_digits (number_of value)))

-- A terminal's name: from 1 to 64 of certain bytes (ours).
abbrev pub is_term : List ℕ → Bool
is_term text = (nat_le 1 (length text) && nat_le (length text) 64) && list_all is_term_byte text

abbrev pub term_by : Option (List ℕ) → Option (List ℕ)
term_by None = None
term_by (Some text) = if is_term text then Some text else None

-- What the values tell that stand for a size, a terminal's name, and a second, which is cut to a whole one.
abbrev pub sides_of : Option Json → Option Json → Option Size
sides_of columns lines = size_of (side_of columns) (side_of lines)

abbrev pub term_of : Option Json → Option (List ℕ)
term_of value = term_by (string_of value)

abbrev pub date_of : Option Json → Option ℕ
date_of value = option_and_then dated (option_map (scaled 0) (number_of value))

-- What the header tells: in version 2 `width`, `height` and the `TERM` of `env`, in version 3 `cols`, `rows` and `type`
-- of `term`; in both the second `timestamp`.
abbrev pub told_size : Version → Option Json → Option Size
told_size version.Two header =
    sides_of (member_of (codes "width") header) (member_of (codes "height") header)
told_size version.Three header =
    let term = member_of (codes "term") header in
    sides_of (member_of (codes "cols") term) (member_of (codes "rows") term)

abbrev pub told_term : Version → Option Json → Option (List ℕ)
told_term version.Two header = term_of (member_of (codes "TERM") (member_of (codes "env") header))
told_term version.Three header = term_of (member_of (codes "type") (member_of (codes "term") header))

abbrev pub told_date : Option Json → Option ℕ
told_date header = date_of (member_of (codes "timestamp") header)

-- A size as `80x24`.
abbrev pub sided : Option (List ℕ × List ℕ) → Option Size
sided None = None
sided (Some cut) = size_of (side (digits.number_of (cut.0))) (side (digits.number_of (cut.1)))

abbrev pub resized : Option (List ℕ) → Option Size
resized None = None
resized (Some text) = sided (parted 120 text)

-- What an event is by its code: `o` an output, `i` an input, `m` a marker, `r` a change of size.
abbrev pub what_of : List ℕ → Option Json → Option What
what_of code value =
    if is_word (codes "o") code then option_map what.Output (string_of value)
    else if is_word (codes "r") code then Some (what.Resize (resized (string_of value)))
    else if is_word (codes "i") code then Some what.Input
    else if is_word (codes "m") code then Some what.Marker
    else Some what.Other

-- An event is an array of exactly a number, its time in seconds, a string, its code, and any value, for an output a
-- string.
abbrev pub event_by : Option Json → Option Json → Option Json → Option Event
event_by time code value =
    option_and_then (λ seconds. option_and_then (λ name.
    option_map (λ found. record { time = scaled 6 seconds; what = found }) (what_of name value))
    (string_of code))
    (number_of time)

abbrev pub event_from : Option (Json × Json × Json) → Option Event
event_from None = None
event_from (Some three) = event_by (Some three.0) (Some three.1) (Some three.2)

abbrev pub event_of : List ℕ → Option Event
event_of line = event_from (triple_of (json_of line))

-- An output's moment.
abbrev pub at_moment : What → ℕ → Outputs → Outputs
at_moment (what.Output bytes) us so_far = reached us so_far
at_moment what.Input us so_far = so_far
at_moment what.Marker us so_far = so_far
at_moment (what.Resize size) us so_far = so_far
at_moment what.Other us so_far = so_far

-- When it is: in version 2 an output's time is its moment, in version 3 each event's the time since the one before.
abbrev pub in_time : Version → Event → Outputs → Outputs
in_time version.Three found so_far = passed found.time so_far
in_time version.Two found so_far = at_moment found.what found.time so_far

-- The size in force.
abbrev pub is_in_force : Size → Option Size → Bool
is_in_force size None = false
is_in_force size (Some now) = now.columns == size.columns && now.lines == size.lines

-- A change of size before the first chunk gives the size; one to the size in force is nothing; each other one is left
-- out and counted (ours).
abbrev pub with_resize : Cast → Cast
with_resize cast = record cast { others = record cast.others { resizes = cast.others.resizes + 1 } }

abbrev pub with_size : Option Size → Cast → Cast
with_size None cast = with_resize cast
with_size (Some size) cast =
    if length cast.outputs.chunks == 0 then record cast { in_force = Some size; told = Some size }
    else if is_in_force size cast.in_force then cast
    else with_resize (record cast { in_force = Some size })

-- What an event is, is taken or counted.
abbrev pub with_what : What → Cast → Cast
with_what (what.Output bytes) cast = record cast { outputs = with_output cast.line bytes cast.outputs }
with_what (what.Resize size) cast = with_size size cast
with_what what.Input cast = record cast { others = record cast.others { inputs = cast.others.inputs + 1 } }
with_what what.Marker cast = record cast { others = record cast.others { markers = cast.others.markers + 1 } }
with_what what.Other cast = record cast { others = record cast.others { others = cast.others.others + 1 } }

abbrev pub with_event : Version → Event → Cast → Cast
with_event version found cast =
    with_what found.what (record cast { outputs = in_time version found cast.outputs })

-- The fault of an output, if it has one.
abbrev pub what_fault : What → Outputs → Option EventFault
what_fault (what.Output bytes) so_far = output_fault so_far (length bytes)
what_fault (what.Resize size) so_far = None
what_fault what.Input so_far = None
what_fault what.Marker so_far = None
what_fault what.Other so_far = None

-- The fault of a line: it is no event, or an output that has one.
abbrev pub event_fault : Cast → Option Event → Option EventFault
event_fault cast None = Some event.BadEvent
event_fault cast (Some found) = what_fault found.what cast.outputs

abbrev pub line_fault : Version → Cast → List ℕ → Option EventFault
line_fault version cast line = if is_skipped version line then None else event_fault cast (event_of line)

-- A line without a fault is read.
abbrev pub with_found : Version → Cast → Option Event → Cast
with_found version cast None = cast
with_found version cast (Some found) = with_event version found cast

abbrev pub with_line : Version → Cast → List ℕ → Cast
with_line version cast line = if is_skipped version line then cast else with_found version cast (event_of line)

-- A line is read, and then those behind it; or it has a fault, and reading ends before it: from it on all lines are
-- left out.
abbrev pub left_from : ℕ → ℕ → EventFault → Left
left_from number count fault = record { place = place.Line; number = number; fault = fault; count = count }

abbrev pub go_on : (Cast → CastFront) → Cast → Cast → Option EventFault → (EventFault → Left) → CastFront
go_on more next cast None left = more next
go_on more next cast (Some fault) left = record { cast = cast; left = Some (left fault) }

-- The lines behind so many others; they are counted from 1.
abbrev pub on_line : ℕ → Cast → Cast
on_line number cast = record cast { line = number }

abbrev pub events : Version → ℕ → Cast → List (List ℕ) → CastFront
events version number cast [] = record { cast = cast; left = None }
events version number cast (line ∷ more) =
    let here = on_line (number + 1) cast in
    go_on (λ next. events version (number + 1) next more) (with_line version here line) here
    (line_fault version here line)
    (left_from (number + 1) (length (line ∷ more)))

-- Behind the header nothing was read yet.
abbrev pub at_header : Option Size → Cast
at_header size = record { line = 0; outputs = none_yet; in_force = size; told = size; others = no_others }

-- The number of the header's line, which is that of all lines where there is none.
abbrev pub header_number : List (List ℕ) → ℕ
header_number lines = length lines - length (past_header lines)

-- What is read of the lines, and the header.
abbrev pub cast_of : Version → List (List ℕ) → CastFront
cast_of version lines =
    events version (header_number lines)
    (at_header (told_size version (json_of (header_line lines))))
    (past_header lines)

abbrev pub asciicast_of : Version → List ℕ → CastFront
asciicast_of version text = cast_of version (lines_of text)

abbrev pub header_of : List ℕ → Option Json
header_of text = json_of (header_line (lines_of text))
