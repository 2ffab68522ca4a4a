-- Reading the data of a page: arrays, strings and numbers of JSON (RFC 8259) as deep as they nest here, and the entries
-- that they tell (ours).
use Rattle.std.specs.Prelude.{ℕ, ◌+◌, ◌-◌, ◌*◌, ◌/◌, ◌%◌, List, [], ◌∷◌, ◌++◌, encode_utf8, length, Option, Some, None, ◌==◌, ◌||◌, nat_lt, if◌then◌else◌}
use Rattle.std.specs.Option.{option_map}
use Rattle.tape_core.specs.Seconds.{seconds_of}
use Rattle.tape_core.specs.Text.{number_of}
use Rattle.vt_screen.specs.declared.cell.Size.{Size}
use Rattle.vt_screen.specs.declared.cell.Size.TheVariants.{Single, Double, Top, Bottom}
use Rattle.screen_page.specs.Entries.{Change, Was, Is, Entry, ShownRun}

-- ---- values

-- what an innermost array has: numbers, by their characters, and strings
pub data Item : Type 0 where
  Figure : List ℕ → Item
  Text : List ℕ → Item

-- what an array around it has: numbers, and such arrays
pub data Field : Type 0 where
  Number : List ℕ → Field
  Inner : List Item → Field

-- what was read of the arrays, by how many of them are open
pub data Place : Type 0 where
  Before : Place
  InData : List (List Field) → Place
  InEntry : List (List Field) → List Field → Place
  InRow : List (List Field) → List Field → List Item → Place
  Behind : List (List Field) → Place
  Bad : Place

-- what of a value was read: characters of a number, of which there are none between values; those of a string; of one that
-- stands at a backslash; and of one with digits of a character's number
pub data Piece : Type 0 where
  Digits : List ℕ → Piece
  Chars : List ℕ → Piece
  Escape : List ℕ → Piece
  Code : List ℕ → List ℕ → Piece

-- a text that is being read
pub record Reading : Type 0 where
  pub place : Place
  pub piece : Piece

abbrev pub at : Place → Piece → Reading
at place piece = record { place = place; piece = piece }

-- ---- arrays

abbrev pub opened : Place → Place
opened Before = InData []
opened (InData entries) = InEntry entries []
opened (InEntry entries fields) = InRow entries fields []
opened _ = Bad

abbrev pub closed : Place → Place
closed (InData entries) = Behind entries
closed (InEntry entries fields) = InData (entries ++ fields ∷ [])
closed (InRow entries fields items) = InEntry entries (fields ++ Inner items ∷ [])
closed _ = Bad

abbrev pub with_number : Place → List ℕ → Place
with_number (InEntry entries fields) digits = InEntry entries (fields ++ Number digits ∷ [])
with_number (InRow entries fields items) digits = InRow entries fields (items ++ Figure digits ∷ [])
with_number _ digits = Bad

abbrev pub with_text : Place → List ℕ → Place
with_text (InRow entries fields items) text = InRow entries fields (items ++ Text text ∷ [])
with_text _ text = Bad

-- a number ends where something else comes
abbrev pub ended : Place → List ℕ → Place
ended place [] = place
ended place (digit ∷ digits) = with_number place (digit ∷ digits)

-- ---- strings

abbrev pub hex_digit : ℕ → ℕ
hex_digit byte = if nat_lt byte 58 then byte - 48 else (if nat_lt byte 71 then byte - 55 else byte - 87)

abbrev pub hex_value : ℕ → List ℕ → ℕ
hex_value value [] = value
hex_value value (digit ∷ digits) = hex_value (16 * value + hex_digit digit) digits

-- a digit more of a character's number, of which there are four
abbrev pub with_code : List ℕ → List ℕ → Piece
with_code text digits = if length digits == 4 then Chars (text ++ encode_utf8 (hex_value 0 digits)) else Code text digits

-- ---- bytes

-- a byte outside strings
abbrev pub plain_byte : Place → List ℕ → ℕ → Reading
plain_byte place digits byte =
    if byte == 91 then at (opened (ended place digits)) (Digits [])
    else (if byte == 93 then at (closed (ended place digits)) (Digits [])
    else (if byte == 34 then at (ended place digits) (Chars [])
    else (if (byte == 44) || (byte == 10) then at (ended place digits) (Digits [])
    else at place (Digits (digits ++ byte ∷ [])))))

-- a byte in a string
abbrev pub text_byte : Place → List ℕ → ℕ → Reading
text_byte place text byte =
    if byte == 34 then at (with_text place text) (Digits [])
    else (if byte == 92 then at place (Escape text) else at place (Chars (text ++ byte ∷ [])))

abbrev pub read_byte : Place → Piece → ℕ → Reading
read_byte place (Digits digits) byte = plain_byte place digits byte
read_byte place (Chars text) byte = text_byte place text byte
read_byte place (Escape text) byte =
    if byte == 117 then at place (Code text []) else at place (Chars (text ++ byte ∷ []))
read_byte place (Code text digits) byte = at place (with_code text (digits ++ byte ∷ []))

abbrev pub read_bytes : Reading → List ℕ → Reading
read_bytes reading [] = reading
read_bytes reading (byte ∷ bytes) = read_bytes (read_byte reading.place reading.piece byte) bytes

abbrev pub whole : Place → Option (List (List Field))
whole (Behind entries) = Some entries
whole _ = None

-- the arrays in the array that a text is
unfoldable pub fields_read : List ℕ → Option (List (List Field))
fields_read text = whole (read_bytes (at Before (Digits [])) text).place

-- ---- what the fields of an entry tell

abbrev pub run_with : Option ℕ → List ℕ → Option (List ShownRun) → Option (List ShownRun)
run_with (Some kind) text (Some runs) = Some (record { kind = kind; characters = text } ∷ runs)
run_with _ text _ = None

abbrev pub runs_told : List Item → Option (List ShownRun)
runs_told [] = Some []
runs_told (Figure kind ∷ Text text ∷ rest) = run_with (number_of kind) text (runs_told rest)
runs_told _ = None

abbrev pub size_told : ℕ → Size
size_told size = if size == 0 then Single else (if size == 1 then Double else (if size == 2 then Top else Bottom))

abbrev pub row_with : Option ℕ → Option (List ShownRun) → Option Change
row_with (Some size) (Some runs) = Some (Is (record { size = size_told size; runs = runs }))
row_with _ _ = None

abbrev pub row_told : List Item → Option Change
row_told (Figure size ∷ rest) = row_with (number_of size) (runs_told rest)
row_told _ = None

abbrev pub change_with : Option ℕ → Option Change → Option (List (ℕ × Change)) → Option (List (ℕ × Change))
change_with (Some line) (Some change) (Some changes) = Some ((line, change) ∷ changes)
change_with _ _ _ = None

abbrev pub changes_told : List Field → Option (List (ℕ × Change))
changes_told [] = Some []
changes_told (Number line ∷ Number other ∷ rest) = change_with (number_of line) (option_map Was (number_of other)) (changes_told rest)
changes_told (Number line ∷ Inner items ∷ rest) = change_with (number_of line) (row_told items) (changes_told rest)
changes_told _ = None

abbrev pub entry_with : Option ℕ → Option ℕ → Option ℕ → Option ℕ → Option (List (ℕ × Change)) → Option Entry
entry_with (Some due) (Some flags) (Some line) (Some column) (Some changes) = Some (record {
  due = due;
  wide = flags % 2 == 1;
  reversed = flags / 2 % 2 == 1;
  line = line;
  column = column;
  changes = changes;
})
entry_with _ _ _ _ _ = None

abbrev pub entry_told : List Field → Option Entry
entry_told (Number due ∷ Number flags ∷ Number line ∷ Number column ∷ rest) =
    entry_with (seconds_of due) (number_of flags) (number_of line) (number_of column) (changes_told rest)
entry_told _ = None

abbrev pub entry_before : Option Entry → Option (List Entry) → Option (List Entry)
entry_before (Some entry) (Some entries) = Some (entry ∷ entries)
entry_before _ _ = None

abbrev pub all_told : List (List Field) → Option (List Entry)
all_told [] = Some []
all_told (fields ∷ rest) = entry_before (entry_told fields) (all_told rest)

abbrev pub told_by : Option (List (List Field)) → Option (List Entry)
told_by (Some entries) = all_told entries
told_by None = None

-- the entries that a text tells
unfoldable pub entries_read : List ℕ → Option (List Entry)
entries_read text = told_by (fields_read text)
