-- Sizes of lines, the width of the screen, the margins, and the alignment pattern.
use Rattle.std.specs.Prelude.{ℕ, Bool, false, not, nat_lt, nat_le, ◌&&◌, min, if◌then◌else◌}
use Rattle.vt_screen.specs.declared.cell.Cell.{Cell}
use Rattle.vt_screen.specs.declared.cell.Size.{Size}
use Rattle.vt_screen.specs.declared.cell.Size.TheVariants.{Single}
use Rattle.vt_screen.specs.declared.cell.Row.{Row}
use Rattle.vt_screen.specs.Attributes.{plain}
use Rattle.vt_screen.specs.Cells.{blank, blank_row, cell_at, row_at, is_single, rows_by, row_by}
use Rattle.vt_screen.specs.Picture.{Picture, columns, margin_of}
use Rattle.vt_screen.specs.Moves.{moved_home}
use Rattle.vt_screen.specs.Puts.{with_row}
use Rattle.vt_screen.specs.Limits.{line_count}

-- a row of another size: from single to double the cells right of the middle are blank (ours)
abbrev pub resized : Bool → Size → Row → Row
resized wide size row = row_by size (λ column.
    if is_single row.size && not (is_single size) && nat_lt (margin_of wide size) column
    then blank
    else cell_at row column)

-- DECSWL, DECDWL, DECDHL: the cursor's line has another size, and the column is at most its right
-- margin (EK-VT100-UG chapter 3, line attributes)
abbrev pub size_set : Size → Picture → Picture
size_set size p = record p {
  rows = with_row p.line (resized p.wide size (row_at p.rows p.line)) p.rows;
  column = min p.column (margin_of p.wide size);
  wrap = false;
}

-- DECCOLM, also to the width already there: all blank and single, margins 1 and 24, home (ours)
abbrev pub columns_set : Bool → Bool → Picture → Picture
columns_set wide origin p =
    moved_home origin (record p { wide = wide; rows = rows_by (λ _. blank_row); top = 1; bottom = line_count })

-- the cell that the alignment pattern is filled with: the letter E (EK-VT100-UG chapter 3, DECALN)
abbrev pub pattern : Cell
pattern = record { glyph = 69; rendition = plain }

-- a row that is filled with one cell to a column, single width
abbrev pub filled_to : Cell → ℕ → Row → Row
filled_to cell to row = row_by Single (λ column. if nat_le column to then cell else cell_at row column)

-- DECALN: every cell to the number of columns is the letter E, all lines single; cursor and margins
-- stay (EK-VT100-UG chapter 3; what stays: ours)
abbrev pub aligned : Picture → Picture
aligned p = record p {
  rows = rows_by (λ line. filled_to pattern (columns p.wide) (row_at p.rows line));
  wrap = false;
}

-- a region has at least two lines, and lies on the screen (EK-VT100-UG chapter 3, DECSTBM)
abbrev pub are_margins : ℕ → ℕ → Bool
are_margins top bottom = nat_le 1 top && nat_lt top bottom && nat_le bottom line_count

-- DECSTBM: these margins and home, or nothing where they are none (EK-VT100-UG chapter 3, DECSTBM)
abbrev pub margins_set : ℕ → ℕ → Bool → Picture → Picture
margins_set top bottom origin p =
    if are_margins top bottom then moved_home origin (record p { top = top; bottom = bottom }) else p
