-- How entries are written: as JSON that may stand inside HTML (RFC 8259; which values stand where is ours).
use Rattle.std.specs.Prelude.{ℕ, ◌+◌, ◌*◌, List, [], ◌∷◌, ◌++◌, decimal, ◌==◌, if◌then◌else◌}
use Rattle.std.specs.List.{flat_map}
use Rattle.tape_core.specs.Written.{seconds_form}
use Rattle.xterm_rows.specs.Ink.{bit}
use Rattle.screen_page.specs.EntryText.{comma_number, string_text}
use Rattle.xterm_page.specs.Entries.{Change, Was, Is, Entry, ShownRun}

-- ---- rows

-- a kind, an ink and a paper without the noughts at their end, a comma before each
unfoldable pub numbers_text : ℕ → ℕ → ℕ → List ℕ
numbers_text kind ink paper =
    if paper == 0
    then (if ink == 0 then (if kind == 0 then [] else comma_number kind) else comma_number kind ++ comma_number ink)
    else comma_number kind ++ comma_number ink ++ comma_number paper

-- a run: its numbers, its characters
unfoldable pub run_text : ShownRun → List ℕ
run_text run = numbers_text run.kind run.ink run.paper ++ 44 ∷ string_text run.characters

-- a row: 0, its runs
unfoldable pub row_text : List ShownRun → List ℕ
row_text runs = 91 ∷ 48 ∷ flat_map run_text runs ++ 93 ∷ []

-- what a line is now: the number of the line that was this row, or the row
unfoldable pub change_text : Change → List ℕ
change_text (Was line) = decimal line
change_text (Is row) = row_text row

-- a line that a chunk changes, behind the cursor's place
unfoldable pub named_text : ℕ × Change → List ℕ
named_text (line, change) = comma_number line ++ 44 ∷ change_text change

-- ---- entries

-- 2 for a reversed screen and 4 for a hidden cursor, added
abbrev pub flags : Entry → ℕ
flags entry = 2 * bit entry.reversed + 4 * bit entry.hidden

-- what each entry has: when it is due in seconds, its flags, the cursor's line and column
unfoldable pub entry_front : Entry → List ℕ
entry_front entry =
    seconds_form entry.due ++ comma_number (flags entry) ++ comma_number entry.line ++ comma_number entry.column

-- an entry
unfoldable pub entry_text : Entry → List ℕ
entry_text entry = 91 ∷ entry_front entry ++ flat_map named_text entry.changes ++ 93 ∷ []

-- an entry behind what stands before it, on a line of its own
unfoldable pub next_text : Entry → List ℕ
next_text entry = 44 ∷ 10 ∷ entry_text entry

-- the size: columns and lines
unfoldable pub size_text : ℕ → ℕ → List ℕ
size_text columns lines = 91 ∷ decimal columns ++ comma_number lines ++ 93 ∷ []

-- the size and the entries as one array, a line for each
unfoldable pub data_text : ℕ → ℕ → List Entry → List ℕ
data_text columns lines entries = 91 ∷ size_text columns lines ++ flat_map next_text entries ++ 93 ∷ []
