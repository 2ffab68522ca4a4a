-- The outputs of an asciicast of version 1 as they stand in the file, one behind another, whatever a recording's limits
-- are. asciinema's asciicast v1.
use Rattle.std.specs.Prelude.{ℕ, zero, suc, List, [], ◌∷◌, codes, length, Option, Some, None, if◌then◌else◌}
use Rattle.std.specs.Option.{option_and_then, option_map, option_or}
use Rattle.json_bytes.specs.Marks.{past_mark}
use Rattle.json_bytes.specs.Values.{Json, Read, value}
use Rattle.tape_import.specs.Asciicast.{is_word}
use Rattle.tape_import.specs.AsciicastOne.{entry_at, string_then}
use Rattle.tape_import.specs.declared.asciicast_one.Inside.{Inside}
use Rattle.tape_import.specs.declared.asciicast_one.Inside.TheVariants as inside
use Rattle.tape_import.specs.declared.entry.Entry.{Entry}

-- The outputs of the members or entries from a place on.
abbrev pub From : Type 0
From = Inside → List ℕ → List (List ℕ)

-- Behind a member or an entry another one stands, or none.
abbrev pub Next : Type 0
Next = Option (Inside × List ℕ)

abbrev pub next_member : List ℕ → Next
next_member text = option_map (λ next. (inside.Object, next)) (past_mark 44 text)

abbrev pub next_entry : List ℕ → Next
next_entry text =
    option_or (option_map (λ next. (inside.Stdout, next)) (past_mark 44 text))
    (option_and_then next_member (past_mark 93 text))

abbrev pub next_outputs : From → Next → List (List ℕ)
next_outputs more None = []
next_outputs more (Some next) = more next.0 next.1

-- An entry has one output.
abbrev pub entry_outputs : From → Read Entry → List (List ℕ)
entry_outputs more None = []
entry_outputs more (Some found) = found.0.bytes ∷ next_outputs more (next_entry found.1)

-- `stdout` has its entries, each other member none.
abbrev pub array_outputs : From → List ℕ → Option (List ℕ) → List (List ℕ)
array_outputs more inner (Some behind) = next_outputs more (next_member behind)
array_outputs more inner None = more inside.Stdout inner

abbrev pub stdout_outputs : From → Option (List ℕ) → List (List ℕ)
stdout_outputs more None = []
stdout_outputs more (Some inner) = array_outputs more inner (past_mark 93 inner)

abbrev pub value_outputs : From → Read Json → List (List ℕ)
value_outputs more None = []
value_outputs more (Some found) = next_outputs more (next_member found.1)

abbrev pub member_outputs : From → Read (List ℕ) → List (List ℕ)
member_outputs more None = []
member_outputs more (Some name) =
    if is_word (codes "stdout") name.0 then stdout_outputs more (past_mark 91 name.1)
    else value_outputs more (value 63 name.1)

-- Members and entries one behind another, at most so many.
abbrev pub outputs_at : Inside → From → List ℕ → List (List ℕ)
outputs_at inside.Object more text = member_outputs more (string_then 58 text)
outputs_at inside.Stdout more text = entry_outputs more (entry_at text)

abbrev pub outputs_inside : ℕ → From
outputs_inside zero next text = []
outputs_inside (suc most) next text = outputs_at next (outputs_inside most) text

-- The outputs of a file. It has fewer members and entries than bytes.
abbrev pub first_outputs : From → List ℕ → Option (List ℕ) → List (List ℕ)
first_outputs more inner (Some behind) = []
first_outputs more inner None = more inside.Object inner

abbrev pub object_outputs : From → Option (List ℕ) → List (List ℕ)
object_outputs more None = []
object_outputs more (Some inner) = first_outputs more inner (past_mark 125 inner)

abbrev pub outputs_of : List ℕ → List (List ℕ)
outputs_of text = object_outputs (outputs_inside (length text)) (past_mark 123 text)
