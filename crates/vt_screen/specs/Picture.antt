-- What a screen shows, as a plain value; lines and columns are counted from 1.
use Rattle.std.specs.Prelude.{◌≡◌, ℕ, ◌/◌, ◌<◌, ◌≤◌, ◌%◌, Bool, false, List, length, nat_lt, ◌==◌, ◌&&◌, if◌then◌else◌}
use Rattle.vt_screen.specs.declared.cell.Cell.{Cell}
use Rattle.vt_screen.specs.declared.cell.Size.{Size}
use Rattle.vt_screen.specs.declared.cell.Row.{Row}
use Rattle.vt_screen.specs.Table.{table}
use Rattle.vt_screen.specs.Cells.{blank, blank_row, cell_at, row_at, is_single, rows_by}
use Rattle.vt_screen.specs.Limits.{last_glyph, line_count, narrow_columns, wide_columns}

pub record Picture : Type 0 where
  -- 132 columns, and 80 otherwise
  pub wide : Bool
  -- 24 rows, line 1 first
  pub rows : List Row
  -- the cursor's line and column
  pub line : ℕ
  pub column : ℕ
  -- the next character wraps first
  pub wrap : Bool
  -- the margins of the region that scrolls
  pub top : ℕ
  pub bottom : ℕ
  -- whether a tab stops at columns 1 to 132
  pub tabs : List Bool

-- how many columns the screen has (EK-VT100-UG chapter 3, DECCOLM)
abbrev pub columns : Bool → ℕ
columns wide = if wide then wide_columns else narrow_columns

-- the right margin of a line of this size: all columns, or half of them on the double sizes
abbrev pub margin_of : Bool → Size → ℕ
margin_of wide size =
    if is_single size then columns wide else (if wide then wide_columns / 2 else narrow_columns / 2)

-- the right margin of a line
abbrev pub right_margin : Picture → ℕ → ℕ
right_margin p line = margin_of p.wide (row_at p.rows line).size

-- Private: a picture with these rows
abbrev pub with_rows : List Row → Picture → Picture
with_rows rows p = record p { rows = rows }

-- the cell at a line and a column
abbrev pub cell : Picture → ℕ → ℕ → Cell
cell p line column = cell_at (row_at p.rows line) column

-- a row of 132 cells that are blank right of the right margin, with glyphs up to 126
pub record SoundRow (wide : Bool) (row : Row) : Type 0 where
  pub cells : length row.cells ≡ wide_columns
  pub blank_right : (column : ℕ) → margin_of wide row.size < column → cell_at row column ≡ blank
  pub glyphs : (column : ℕ) → (cell_at row column).glyph ≤ last_glyph

-- what every screen keeps: 24 such rows, the cursor within the right margin of its line, and a top
-- margin above the bottom one (ours)
pub record Sound (p : Picture) : Type 0 where
  pub rows : length p.rows ≡ line_count
  pub row : (line : ℕ) → SoundRow p.wide (row_at p.rows line)
  pub line_low : 1 ≤ p.line
  pub line_high : p.line ≤ line_count
  pub column_low : 1 ≤ p.column
  pub column_high : p.column ≤ right_margin p p.line
  pub top_low : 1 ≤ p.top
  pub apart : p.top < p.bottom
  pub bottom_high : p.bottom ≤ line_count
  pub tabs : length p.tabs ≡ wide_columns

-- the cursor's line is inside the margins, as it is while lines are counted from the top margin
pub record IsInRegion (p : Picture) : Type 0 where
  pub below_top : p.top ≤ p.line
  pub above_bottom : p.line ≤ p.bottom

-- a tab stops at every eighth column from 9 to 129 (ours)
abbrev pub first_tabs : List Bool
first_tabs = table wide_columns (λ column. nat_lt 1 column && (column % 8 == 1))

-- the initial screen (ours): 80 columns, all blank and single width
abbrev pub reset : Picture
reset = record {
  wide = false;
  rows = rows_by (λ _. blank_row);
  line = 1;
  column = 1;
  wrap = false;
  top = 1;
  bottom = line_count;
  tabs = first_tabs;
}
