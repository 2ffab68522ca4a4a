-- A sheet as its users see it: rows of cells, and where each of them came from.
use Rattle.std.specs.Prelude.{◌≡◌, ℕ, ◌+◌, ◌-◌, ◌<◌, ◌≤◌, Bool, false, not, List, [], length, nat_le, nat_lt, ◌&&◌, ◌==◌, if◌then◌else◌}
use Rattle.sheet.specs.declared.rendition.Colour.{Colour}
use Rattle.sheet.specs.declared.rendition.Colour.TheVariants.{Default}
use Rattle.sheet.specs.Table.{table, nth}
use Rattle.sheet.specs.Cells.{Cell, alignment, blank, cell_at}

-- the size, the rows from line 1 on, and for each line the one whose row it has, as rows stood when the marks were
-- last cleared; 0 where that isn't known (ours)
pub record Grid : Type 0 where
  pub columns : ℕ
  pub lines : ℕ
  pub rows : List (List Cell)
  pub origins : List ℕ

-- a row of this cell alone (ours)
abbrev pub row_of : ℕ → Cell → List Cell
row_of columns cell = table columns (λ _. cell)

-- a row of blank cells (ours)
abbrev pub blank_row : ℕ → Colour → List Cell
blank_row columns paper = row_of columns (blank paper)

-- the row of a line, with none outside the sheet (ours)
abbrev pub row_at : List (List Cell) → ℕ → List Cell
row_at rows line = nth [] rows line

-- behind so many cells all of a row are blank (ours)
pub record IsUsed (row : List Cell) (used : ℕ) : Type 0 where
  pub within : used ≤ length row
  pub tail : (column : ℕ) → used < column → cell_at row column ≡ blank Default

-- one row is another, and the others stay (ours)
abbrev pub with_row : ℕ → List Cell → List (List Cell) → List (List Cell)
with_row at row rows = table (length rows) (λ line. if line == at then row else row_at rows line)

-- the rows from one line to another are this row (ours)
abbrev pub lines_filled : ℕ → ℕ → List Cell → List (List Cell) → List (List Cell)
lines_filled from to row rows = table (length rows) (λ line.
    if nat_le from line && nat_le line to then row else row_at rows line)

-- the rows from one line to another are blank (ECMA-48 8.3.39, ED)
abbrev pub lines_erased : ℕ → ℕ → ℕ → Colour → List (List Cell) → List (List Cell)
lines_erased from to columns paper rows = lines_filled from to (blank_row columns paper) rows

-- blank rows alone (ours)
abbrev pub blank_rows : ℕ → ℕ → Colour → List (List Cell)
blank_rows columns lines paper = table lines (λ _. blank_row columns paper)

-- rows full of the letter E (xterm: DECALN)
abbrev pub aligned : ℕ → ℕ → List (List Cell)
aligned columns lines = table lines (λ _. row_of columns alignment)

-- the line of before whose row a line has, from 1, or 0 where that isn't known, as outside the sheet (ours)
abbrev pub origin_of : List ℕ → ℕ → ℕ
origin_of origins line = nth 0 origins line

-- a line was touched: it isn't known to have its own row of before (ours)
abbrev pub is_touched : List ℕ → ℕ → Bool
is_touched origins line = not (origin_of origins line == line)

-- of the lines from one to before another it isn't known where they came from (ours)
abbrev pub unknown_from : ℕ → ℕ → List ℕ → List ℕ
unknown_from first last origins = table (length origins) (λ line.
    if nat_le first line && nat_lt line last then 0 else origin_of origins line)

-- each line has its own row (ours)
abbrev pub own_origins : ℕ → List ℕ
own_origins lines = table lines (λ line. line)

-- it isn't known of any line where its row came from (ours)
abbrev pub no_origins : ℕ → List ℕ
no_origins lines = table lines (λ _. 0)

-- each line whose origin is known has the row that this one had before (ours)
abbrev pub AreTold : List (List Cell) → List ℕ → List (List Cell) → Type 0
AreTold before origins rows = (line : ℕ) → 1 ≤ origin_of origins line
    → row_at rows line ≡ row_at before (origin_of origins line)

-- each line that wasn't touched has its own row of before, and where any row is another one, each line whose origin is
-- known has the row that this one had (ours)
pub record AreMarked (before : List (List Cell)) (origins : List ℕ) (rows : List (List Cell)) : Type 0 where
  pub stay : (line : ℕ) → is_touched origins line ≡ false → row_at rows line ≡ row_at before line
  pub move : (rows ≡ before → ⊥) → AreTold before origins rows

-- so it is on a sheet (ours)
abbrev pub Told : List (List Cell) → Grid → Type 0
Told before g = AreTold before g.origins g.rows

-- lines from the top to the bottom become the one n below, and an empty one where there is none
-- (ECMA-48 8.3.147, SU; 8.3.32, DL)
abbrev pub scrolled_up : ℕ → ℕ → ℕ → List Cell → List (List Cell) → List (List Cell)
scrolled_up n top bottom empty rows = table (length rows) (λ line.
    if nat_le top line && nat_le line bottom
    then (if nat_le (line + n) bottom then row_at rows (line + n) else empty)
    else row_at rows line)

-- the mirror image (ECMA-48 8.3.113, SD; 8.3.67, IL)
abbrev pub scrolled_down : ℕ → ℕ → ℕ → List Cell → List (List Cell) → List (List Cell)
scrolled_down n top bottom empty rows = table (length rows) (λ line.
    if nat_le top line && nat_le line bottom
    then (if nat_le (top + n) line then row_at rows (line - n) else empty)
    else row_at rows line)

-- blank, and no origin is known (ours)
abbrev pub first_grid : ℕ → ℕ → Grid
first_grid columns lines = record {
  columns = columns;
  lines = lines;
  rows = blank_rows columns lines Default;
  origins = no_origins lines;
}

-- the same rows, of which no origin is known (ours)
abbrev pub all_touched : Grid → Grid
all_touched g = record g { origins = no_origins g.lines }
