-- Reading the data of a page of a terminal of today: JSON as deep as it nests here, which a page of the VT100 is read by
-- too, and the size and the entries that it tells (ours).
use Rattle.std.specs.Prelude.{ℕ, ◌/◌, ◌%◌, List, [], ◌∷◌, Option, Some, None, ◌==◌, if◌then◌else◌}
use Rattle.std.specs.Option.{option_map}
use Rattle.tape_core.specs.Seconds.{seconds_of}
use Rattle.tape_core.specs.Text.{number_of}
use Rattle.screen_page.specs.Reading.{Item, Figure, Text, Field, Number, Inner, fields_read}
use Rattle.xterm_page.specs.Entries.{Change, Was, Is, Entry, ShownRun}

-- ---- rows

abbrev pub run_with : Option ℕ → Option ℕ → Option ℕ → List ℕ → Option (List ShownRun) → Option (List ShownRun)
run_with (Some kind) (Some ink) (Some paper) text (Some runs) =
    Some (record { kind = kind; ink = ink; paper = paper; characters = text } ∷ runs)
run_with _ _ _ text _ = None

-- runs: each up to its string, before which stand its kind, its ink and its paper; of these the last are 0 where they are
-- left out
abbrev pub runs_told : List Item → Option (List ShownRun)
runs_told [] = Some []
runs_told (Text text ∷ rest) = run_with (Some 0) (Some 0) (Some 0) text (runs_told rest)
runs_told (Figure kind ∷ Text text ∷ rest) = run_with (number_of kind) (Some 0) (Some 0) text (runs_told rest)
runs_told (Figure kind ∷ Figure ink ∷ Text text ∷ rest) =
    run_with (number_of kind) (number_of ink) (Some 0) text (runs_told rest)
runs_told (Figure kind ∷ Figure ink ∷ Figure paper ∷ Text text ∷ rest) =
    run_with (number_of kind) (number_of ink) (number_of paper) text (runs_told rest)
runs_told _ = None

-- a row begins with 0
abbrev pub row_with : Option ℕ → Option (List ShownRun) → Option Change
row_with (Some first) (Some runs) = if first == 0 then Some (Is runs) else None
row_with _ _ = None

abbrev pub row_told : List Item → Option Change
row_told (Figure first ∷ rest) = row_with (number_of first) (runs_told rest)
row_told _ = None

-- ---- entries

abbrev pub change_with : Option ℕ → Option Change → Option (List (ℕ × Change)) → Option (List (ℕ × Change))
change_with (Some line) (Some change) (Some changes) = Some ((line, change) ∷ changes)
change_with _ _ _ = None

-- lines, each with the line that it was before or with its row
abbrev pub changes_told : List Field → Option (List (ℕ × Change))
changes_told [] = Some []
changes_told (Number line ∷ Number other ∷ rest) =
    change_with (number_of line) (option_map Was (number_of other)) (changes_told rest)
changes_told (Number line ∷ Inner items ∷ rest) = change_with (number_of line) (row_told items) (changes_told rest)
changes_told _ = None

-- of the flags 2 is a reversed screen, and 4 a hidden cursor
abbrev pub entry_with : Option ℕ → Option ℕ → Option ℕ → Option ℕ → Option (List (ℕ × Change)) → Option Entry
entry_with (Some due) (Some flags) (Some line) (Some column) (Some changes) = Some (record {
  due = due;
  reversed = flags / 2 % 2 == 1;
  hidden = flags / 4 % 2 == 1;
  line = line;
  column = column;
  changes = changes;
})
entry_with _ _ _ _ _ = None

-- when it is due in seconds, the flags, the cursor's line and column, and what changes
abbrev pub entry_told : List Field → Option Entry
entry_told (Number due ∷ Number flags ∷ Number line ∷ Number column ∷ rest) =
    entry_with (seconds_of due) (number_of flags) (number_of line) (number_of column) (changes_told rest)
entry_told _ = None

abbrev pub entry_before : Option Entry → Option (List Entry) → Option (List Entry)
entry_before (Some entry) (Some entries) = Some (entry ∷ entries)
entry_before _ _ = None

abbrev pub all_told : List (List Field) → Option (List Entry)
all_told [] = Some []
all_told (fields ∷ rest) = entry_before (entry_told fields) (all_told rest)

-- ---- the data

-- what the data of a page tells: a size, and entries
pub record Data : Type 0 where
  pub columns : ℕ
  pub lines : ℕ
  pub entries : List Entry

abbrev pub data_with : Option ℕ → Option ℕ → Option (List Entry) → Option Data
data_with (Some columns) (Some lines) (Some entries) =
    Some (record { columns = columns; lines = lines; entries = entries })
data_with _ _ _ = None

-- columns and lines, and then the entries
abbrev pub data_told : Option (List (List Field)) → Option Data
data_told (Some ((Number columns ∷ Number lines ∷ []) ∷ rest)) =
    data_with (number_of columns) (number_of lines) (all_told rest)
data_told _ = None

-- what a text tells
unfoldable pub data_read : List ℕ → Option Data
data_read text = data_told (fields_read text)
