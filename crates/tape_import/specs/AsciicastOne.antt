-- An asciicast of version 1: one object, in whose `stdout` the outputs stand. asciinema's asciicast v1.
use Rattle.std.specs.Prelude.{ℕ, zero, suc, ◌+◌, Bool, false, List, codes, length, ◌==◌, Option, Some, None, if◌then◌else◌}
use Rattle.std.specs.Option.{option_and_then, option_map}
use Rattle.json_bytes.specs.Marks.{past_mark, past_space}
use Rattle.json_bytes.specs.Numbers.{number_at, plain_digits, scaled}
use Rattle.json_bytes.specs.Strings.{string_at}
use Rattle.json_bytes.specs.Values.{Json, Read, number_of, value}
use Rattle.tape_import.specs.Asciicast.{is_word}
use Rattle.tape_import.specs.Outputs.{Outputs, none_yet, output_fault, passed, with_output}
use Rattle.tape_import.specs.declared.asciicast_one.Inside.{Inside}
use Rattle.tape_import.specs.declared.asciicast_one.Inside.TheVariants as inside
use Rattle.tape_import.specs.declared.entry.Entry.{Entry}
use Rattle.tape_import.specs.declared.fault.EventFault.{EventFault}
use Rattle.tape_import.specs.declared.fault.EventFault.TheVariants as event

-- The values of members that tell something of the recording.
pub record Named : Type 0 where
  pub version : Option Json
  pub width : Option Json
  pub height : Option Json
  pub env : Option Json
  pub timestamp : Option Json

-- What was read so far: the outputs, how many entries there were, and what other members tell.
pub record SoFar : Type 0 where
  pub outputs : Outputs
  pub count : ℕ
  pub named : Named

-- What was read of a whole file, the fault before which reading ended, and how many bytes are left out from there on.
pub record Ending : Type 0 where
  pub read : SoFar
  pub fault : Option EventFault
  pub left : ℕ

-- Nothing was read yet.
abbrev pub none_named : Named
none_named = record { version = None; width = None; height = None; env = None; timestamp = None }

abbrev pub at_brace : SoFar
at_brace = record { outputs = none_yet; count = 0; named = none_named }

-- Of two members with one name the last counts (ours).
abbrev pub with_value : List ℕ → Option Json → Named → Named
with_value name value named =
    if is_word (codes "version") name then record named { version = value }
    else if is_word (codes "width") name then record named { width = value }
    else if is_word (codes "height") name then record named { height = value }
    else if is_word (codes "env") name then record named { env = value }
    else if is_word (codes "timestamp") name then record named { timestamp = value }
    else named

-- All of the file was read.
abbrev pub whole : SoFar → Ending
whole read = record { read = read; fault = None; left = 0 }

-- Reading ends before what stands at the front, behind space: from it on all bytes are left out.
abbrev pub ends : EventFault → SoFar → List ℕ → Ending
ends fault read text = record { read = read; fault = Some fault; left = length (past_space text) }

-- How the members or entries at the front are read.
abbrev pub Reader : Type 0
Reader = Inside → SoFar → List ℕ → Ending

-- Behind the object stands space alone.
abbrev pub behind_object : SoFar → List ℕ → Ending
behind_object read text = if length (past_space text) == 0 then whole read else ends event.BadEvent read text

-- Behind a member stands a comma and the next one, or the brace that closes the object. RFC 8259, section 4.
abbrev pub member_follows : Reader → SoFar → List ℕ → Option (List ℕ) → Option (List ℕ) → Ending
member_follows more read text (Some next) closed = more inside.Object read next
member_follows more read text None (Some behind) = behind_object read behind
member_follows more read text None None = ends event.BadEvent read text

abbrev pub behind_member : Reader → SoFar → List ℕ → Ending
behind_member more read text = member_follows more read text (past_mark 44 text) (past_mark 125 text)

-- Behind an entry stands a comma and the next one, or the bracket that closes `stdout`. RFC 8259, section 5.
abbrev pub entry_follows : Reader → SoFar → List ℕ → Option (List ℕ) → Option (List ℕ) → Ending
entry_follows more read text (Some next) closed = more inside.Stdout read next
entry_follows more read text None (Some behind) = behind_member more read behind
entry_follows more read text None None = ends event.BadEvent read text

abbrev pub behind_entry : Reader → SoFar → List ℕ → Ending
behind_entry more read text = entry_follows more read text (past_mark 44 text) (past_mark 93 text)

-- A string at the front and a mark behind it.
abbrev pub string_then : ℕ → List ℕ → Read (List ℕ)
string_then mark text =
    option_and_then (λ found. option_map (λ behind. (found.0, behind)) (past_mark mark found.1)) (string_at text)

-- An entry is an array of exactly a number, the seconds since the entry before, and a string, an output.
abbrev pub delay_at : List ℕ → Read ℕ
delay_at text =
    option_and_then (λ inner. option_and_then (λ found.
    option_map (λ behind. (scaled 6 found.0, behind)) (past_mark 44 found.1))
    (number_at inner))
    (past_mark 91 text)

abbrev pub entry_with : ℕ → List ℕ × List ℕ → Entry × List ℕ
entry_with delay found = (record { delay = delay; bytes = found.0 }, found.1)

abbrev pub entry_at : List ℕ → Read Entry
entry_at text = option_and_then (λ found. option_map (entry_with found.0) (string_then 93 found.1)) (delay_at text)

-- Its output is due so long behind the entry before.
abbrev pub with_entry : Entry → SoFar → SoFar
with_entry entry read = record read {
  outputs = with_output read.count entry.bytes (passed entry.delay read.outputs);
  count = read.count + 1;
}

-- An entry is read, and what stands behind it; or its output has a fault.
abbrev pub entry_taken : Reader → SoFar → List ℕ → Entry × List ℕ → Option EventFault → Ending
entry_taken more read text found None = behind_entry more (with_entry found.0 read) found.1
entry_taken more read text found (Some fault) = ends fault read text

abbrev pub entry_by : Reader → SoFar → List ℕ → Read Entry → Ending
entry_by more read text None = ends event.BadEvent read text
entry_by more read text (Some found) =
    entry_taken more read text found (output_fault read.outputs (length found.0.bytes))

abbrev pub an_entry : Reader → SoFar → List ℕ → Ending
an_entry more read text = entry_by more read text (entry_at text)

-- `stdout` is an array of entries.
abbrev pub entries_begin : Reader → SoFar → List ℕ → Option (List ℕ) → Ending
entries_begin more read inner (Some behind) = behind_member more read behind
entries_begin more read inner None = more inside.Stdout read inner

abbrev pub stdout_by : Reader → SoFar → List ℕ → Option (List ℕ) → Ending
stdout_by more read text None = ends event.BadEvent read text
stdout_by more read text (Some inner) = entries_begin more read inner (past_mark 93 inner)

-- Each other member has a value. The object is the outermost one of 64 that may stand in one another.
abbrev pub value_by : Reader → SoFar → List ℕ → List ℕ → Read Json → Ending
value_by more read text name None = ends event.BadEvent read text
value_by more read text name (Some found) =
    behind_member more (record read { named = with_value name (Some found.0) read.named }) found.1

-- A member is read by its name, and what stands behind it.
abbrev pub member_by : Reader → SoFar → List ℕ → Read (List ℕ) → Ending
member_by more read text None = ends event.BadEvent read text
member_by more read text (Some name) =
    if is_word (codes "stdout") name.0 then stdout_by more read text (past_mark 91 name.1)
    else value_by more read text name.0 (value 63 name.1)

abbrev pub a_member : Reader → SoFar → List ℕ → Ending
a_member more read text = member_by more read text (string_then 58 text)

-- Members and entries one behind another, at most so many.
abbrev pub one_inside : Inside → Reader → SoFar → List ℕ → Ending
one_inside inside.Object more read text = a_member more read text
one_inside inside.Stdout more read text = an_entry more read text

abbrev pub those_inside : ℕ → Reader
those_inside zero next read text = ends event.BadEvent read text
those_inside (suc most) next read text = one_inside next (those_inside most) read text

-- The file is one object. It has fewer members and entries than bytes.
abbrev pub members_begin : Reader → List ℕ → Option (List ℕ) → Ending
members_begin more inner (Some behind) = behind_object at_brace behind
members_begin more inner None = more inside.Object at_brace inner

abbrev pub object_by : Reader → List ℕ → Option (List ℕ) → Ending
object_by more text None = ends event.BadEvent at_brace text
object_by more text (Some inner) = members_begin more inner (past_mark 125 inner)

abbrev pub asciicast_one_of : List ℕ → Ending
asciicast_one_of text = object_by (those_inside (length text)) text (past_mark 123 text)

-- Its version is a number that is written so.
abbrev pub is_written_one : Option (List ℕ) → Bool
is_written_one None = false
is_written_one (Some digits) = is_word (codes "1") digits

abbrev pub is_asciicast_one : List ℕ → Bool
is_asciicast_one text =
    is_written_one (option_and_then plain_digits (number_of (asciicast_one_of text).read.named.version))
