-- What is found of a text, and the line that tells it (ours).
use Rattle.std.specs.Prelude.{ℕ, ◌+◌, ◌-◌, ◌==◌, List, [], ◌∷◌, ◌++◌, drop, encode_utf8, if◌then◌else◌, length, nat_le, slice_index_or, take}
use Rattle.std.specs.Fmt.{decimal}
use Rattle.std.specs.List.{flat_map, suffix_len}
use Rattle.tape_core.specs.Written.{seconds_form}
use Rattle.standings.specs.Rows.{Row, row_below}
use Rattle.standings.specs.declared.place.Place.{Place}

-- a sign, the chunk's place and when it is due, and a place on a screen
pub record Found : Type 0 where
  pub sign : ℕ
  pub index : ℕ
  pub due : ℕ
  pub rows : List Row
  pub place : Place

abbrev pub found : ℕ → ℕ → ℕ → List Row → Place → Found
found sign index due rows place = record { sign = sign; index = index; due = due; rows = rows; place = place }

-- the first of these rows that together have so many characters, joined
unfoldable pub rows_reaching : ℕ → List Row → List ℕ
rows_reaching n [] = []
rows_reaching n (row ∷ rows) =
    row.characters ++ (if nat_le n (length row.characters) then [] else rows_reaching (n - length row.characters) rows)

-- a text without the spaces at its end
abbrev pub unspaced : List ℕ → List ℕ
unspaced text = take (length text - suffix_len (λ c. c == 32) text) text

-- the rows of a found text of so many characters, from its first character's to its last one's, joined
abbrev pub found_rows : ℕ → List Row → Place → List ℕ
found_rows len rows place = unspaced (rows_reaching (place.before + len) (drop place.above rows))

-- the line and the column of a place, from 1
abbrev pub line_of : Place → ℕ
line_of place = place.above + 1

abbrev pub column_of : List Row → Place → ℕ
column_of rows place = slice_index_or (row_below rows place.above).columns place.before 0

-- a find line: the sign, the chunk's place and when it is due, the line and the column ..
abbrev pub heading : ℕ → ℕ → ℕ → ℕ → ℕ → List ℕ
heading sign index due line column =
    (sign ∷ 32 ∷ [])
    ++ decimal index ++ (32 ∷ [])
    ++ seconds_form due ++ (32 ∷ [])
    ++ decimal line ++ (32 ∷ [])
    ++ decimal column ++ (32 ∷ [])

-- .. and the rows
abbrev pub found_line : ℕ → ℕ → ℕ → ℕ → List Row → Place → List ℕ
found_line sign index due len rows place =
    heading sign index due (line_of place) (column_of rows place)
    ++ flat_map encode_utf8 (found_rows len rows place) ++ 10 ∷ []

-- that of what is found of a text of so many characters
abbrev pub found_text : ℕ → Found → List ℕ
found_text len f = found_line f.sign f.index f.due len f.rows f.place
