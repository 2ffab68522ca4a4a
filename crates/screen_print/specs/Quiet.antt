-- Private: rows of which what they show of a text stays, whatever rows stand behind them.
use Rattle.std.specs.Prelude.{◌≡◌, ℕ, ◌-◌, ◌<◌, ◌≤◌, false, List, ◌∷◌, ◌++◌, drop, filter, length, take}
use Rattle.std.specs.List.{All, range_with_len}
use Rattle.vt_screen.specs.Cells.{row_at}
use Rattle.vt_screen.specs.Limits.{line_count}
use Rattle.screen_print.specs.FindLines.{begins, left_of, line_text_from, place_in, row_texts}
use Rattle.screen_rows.specs.RowText.{row_text}
use Rattle.screen_print.specs.Stills.{Still}

-- behind so many characters of a row the text begins nowhere, whatever follows the row
abbrev pub BeginsUpTo : List ℕ → ℕ → List ℕ → Type 0
BeginsUpTo text count row =
    (rest : List ℕ) (column : ℕ) → count < column → column ≤ length row → begins text (row ++ rest) column ≡ false

-- the columns of a row at which a text begins in its line, where these rows stand behind it
abbrev pub columns_of : List ℕ → List ℕ → List (List ℕ) → List ℕ
columns_of text row rows = filter (begins text (line_text_from (row ∷ rows))) (range_with_len 1 (length row))

-- a text begins at the same columns of two rows, with the same to the left, whatever rows stand behind them
pub record RowStays (text one other : List ℕ) : Type 0 where
  pub columns : (rows rows' : List (List ℕ)) → columns_of text one rows ≡ columns_of text other rows'
  pub lefts : (rows : List (List ℕ)) → All (λ column. take (column - 1) one ≡ take (column - 1) other) (columns_of text one rows)

-- so it is with a line of two screens, whatever rows stand behind it ..
abbrev pub LineStays : List ℕ → Still → Still → ℕ → Type 0
LineStays text one other line =
    RowStays text (row_text one.wide (row_at one.rows line)) (row_text other.wide (row_at other.rows line))

-- .. and with all their lines
abbrev pub LinesStay : List ℕ → Still → Still → Type 0
LinesStay text one other = (line : ℕ) → 1 ≤ line → line ≤ line_count → LineStays text one other line

-- the columns of a line of a screen at which a text begins
abbrev pub columns_in : List ℕ → Still → ℕ → List ℕ
columns_in text still line =
    columns_of text (row_text still.wide (row_at still.rows line)) (drop line (row_texts still))

-- a text begins at the same columns of a line of two screens, with the same to the left
pub record PlacesStay (text : List ℕ) (one other : Still) (line : ℕ) : Type 0 where
  pub columns : columns_in text one line ≡ columns_in text other line
  pub lefts :
      All (λ column. left_of one (place_in line column) ≡ left_of other (place_in line column))
      (columns_in text one line)

-- so it is with all their lines ..
abbrev pub AllPlacesStay : List ℕ → Still → Still → Type 0
AllPlacesStay text one other = (line : ℕ) → 1 ≤ line → line ≤ line_count → PlacesStay text one other line

-- .. and with those that have the same row on both
abbrev pub SamePlacesStay : List ℕ → Still → Still → Type 0
SamePlacesStay text one other =
    (line : ℕ) → 1 ≤ line → line ≤ line_count → row_at one.rows line ≡ row_at other.rows line
    → PlacesStay text one other line
