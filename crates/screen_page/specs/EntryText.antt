-- How entries are written: as JSON that may stand inside HTML (RFC 8259; which values stand where is ours).
use Rattle.std.specs.Prelude.{ℕ, ◌+◌, ◌*◌, List, [], ◌∷◌, ◌++◌, codes, decimal, ◌==◌, if◌then◌else◌}
use Rattle.std.specs.List.{flat_map}
use Rattle.tape_core.specs.Written.{seconds_form}
use Rattle.vt_screen.specs.Attributes.{bit}
use Rattle.screen_rows.specs.SameRows.{size_number}
use Rattle.screen_page.specs.Entries.{Change, Was, Is, Entry, ShownRow, ShownRun}

-- ---- strings

-- a byte as it stands in a string: " and \ behind a \, and < by its number, so that no tag of HTML begins in a string
abbrev pub string_byte : ℕ → List ℕ
string_byte byte =
    if byte == 34 then codes "\\\""
    else (if byte == 92 then codes "\\\\" else (if byte == 60 then codes "\\u003c" else byte ∷ []))

-- a text as a string
abbrev pub string_text : List ℕ → List ℕ
string_text text = 34 ∷ flat_map string_byte text ++ 34 ∷ []

-- ---- rows

-- a comma and a number
abbrev pub comma_number : ℕ → List ℕ
comma_number n = 44 ∷ decimal n

-- a run behind a row's size: its kind, its characters
abbrev pub run_text : ShownRun → List ℕ
run_text run = comma_number run.kind ++ 44 ∷ string_text run.characters

-- a row: its size, its runs
abbrev pub row_text : ShownRow → List ℕ
row_text row = 91 ∷ decimal (size_number row.size) ++ flat_map run_text row.runs ++ 93 ∷ []

-- what a line is now: the number of the line that was this row, or the row
abbrev pub change_text : Change → List ℕ
change_text (Was line) = decimal line
change_text (Is row) = row_text row

-- a line that a chunk changes, behind the cursor's place
abbrev pub named_text : ℕ × Change → List ℕ
named_text (line, change) = comma_number line ++ 44 ∷ change_text change

-- ---- entries

-- 1 for 132 columns and 2 for a reversed screen, added
abbrev pub flags : Entry → ℕ
flags entry = bit entry.wide + 2 * bit entry.reversed

-- what each entry has: when it is due in seconds, its flags, the cursor's line and column
abbrev pub entry_front : Entry → List ℕ
entry_front entry =
    seconds_form entry.due ++ comma_number (flags entry) ++ comma_number entry.line ++ comma_number entry.column

-- an entry
abbrev pub entry_text : Entry → List ℕ
entry_text entry = 91 ∷ entry_front entry ++ flat_map named_text entry.changes ++ 93 ∷ []

-- an entry behind another one, on a line of its own
abbrev pub next_text : Entry → List ℕ
next_text entry = 44 ∷ 10 ∷ entry_text entry

-- entries behind another, as far as the first that isn't there
abbrev pub listed : List Entry → List ℕ
listed [] = []
listed (entry ∷ rest) = entry_text entry ++ flat_map next_text rest

-- entries as one array, a line for each
abbrev pub data_text : List Entry → List ℕ
data_text entries = 91 ∷ listed entries ++ 93 ∷ []
