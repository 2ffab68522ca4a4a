-- What is done in one row: plain cells by place, then halves.
use Rattle.std.specs.Prelude.{ℕ, ◌+◌, ◌-◌, Bool, false, nat_le, ◌&&◌, ◌==◌, List, [], ◌∷◌, length, if◌then◌else◌}
use Rattle.sheet.specs.declared.rendition.Colour.{Colour}
use Rattle.sheet.specs.declared.rendition.Rendition.{Rendition}
use Rattle.sheet.specs.Table.{table}
use Rattle.sheet.specs.Cells.{Cell, blank, covering, is_covered, lettered, cell_at, with_mark}
use Rattle.sheet.specs.Halves.{mended, parted}

-- the cells from one column to another are all this one (ours)
abbrev pub filled : ℕ → ℕ → Cell → List Cell → List Cell
filled from to cell row = table (length row) (λ column.
    if nat_le from column && nat_le column to then cell else cell_at row column)

-- the cells from one column to another are blank (ECMA-48 8.3.38, ECH; 8.3.41, EL)
abbrev pub erased : ℕ → ℕ → Colour → List Cell → List Cell
erased from to paper row = mended paper (filled from to (blank paper) row)

-- a character, and the right half of one of width 2 (Unicode annex 11)
abbrev pub written : ℕ → ℕ → Bool → Rendition → List Cell → List Cell
written at character wide rendition row = table (length row) (λ column.
    if column == at
    then lettered character wide rendition
    else (if wide && column == at + 1 then covering rendition else cell_at row column))

-- a character is written, and what it cuts becomes blank (xterm)
abbrev pub put : ℕ → ℕ → Bool → Rendition → List Cell → List Cell
put at character wide rendition row = mended rendition.paper (written at character wide rendition row)

-- the column of the character that lies at a column: the one left of it for a right half (ours)
abbrev pub character_column : ℕ → List Cell → ℕ
character_column at row = if is_covered (cell_at row at) then at - 1 else at

-- a character of width 0 joins the character that lies at a column (xterm)
abbrev pub mark_added : ℕ → ℕ → List Cell → List Cell
mark_added at mark row = table (length row) (λ column.
    if column == character_column at row
    then with_mark mark (cell_at row column)
    else cell_at row column)

-- n blank cells come in at a column; that cell and those right of it move right, and the last ones are lost
-- (ECMA-48 8.3.64, ICH)
abbrev pub moved_right : ℕ → ℕ → Colour → List Cell → List Cell
moved_right n from paper row = table (length row) (λ column.
    if nat_le from column
    then (if nat_le (from + n) column then cell_at row (column - n) else blank paper)
    else cell_at row column)

-- they come in, and what they cut becomes blank (ECMA-48 8.3.64, ICH)
abbrev pub inserted : ℕ → ℕ → Colour → List Cell → List Cell
inserted n from paper row = mended paper (moved_right n from paper row)

-- n cells are taken out from a column on, and blank ones come in at the last column
-- (ECMA-48 8.3.26, DCH)
abbrev pub taken_out : ℕ → ℕ → Colour → List Cell → List Cell
taken_out n from paper row = table (length row) (λ column.
    if nat_le from column
    then (if nat_le (column + n) (length row) then cell_at row (column + n) else blank paper)
    else cell_at row column)

-- a character of which one half alone is taken out becomes blank first (ECMA-48 8.3.26, DCH; xterm)
abbrev pub deleted : ℕ → ℕ → Colour → List Cell → List Cell
deleted n from paper row =
    mended paper (taken_out n from paper (parted (from + n) paper (parted from paper row)))

-- characters of width 1 are put one after another (ours)
abbrev pub run_put : ℕ → List ℕ → Rendition → List Cell → List Cell
run_put column [] rendition row = row
run_put column (character ∷ characters) rendition row =
    run_put (column + 1) characters rendition (put column character false rendition row)

-- Private: their cells alone
abbrev pub run_written : ℕ → List ℕ → Rendition → List Cell → List Cell
run_written column [] rendition row = row
run_written column (character ∷ characters) rendition row =
    run_written (column + 1) characters rendition (written column character false rendition row)
