-- What a screen holds, as a plain value; lines and columns are counted from 1.
use Rattle.std.specs.Prelude.{◌≡◌, ℕ, ◌≤◌, ◌%◌, Bool, true, false, List, length, nat_lt, ◌==◌, ◌&&◌}
use Rattle.sheet.specs.Cells.{Cell, cell_at}
use Rattle.sheet.specs.declared.rendition.Colour.TheVariants.{Default}
use Rattle.sheet.specs.Grid.{AreMarked, AreTold, blank_rows, row_at}
use Rattle.sheet.specs.Table.{table}

pub record Picture : Type 0 where
  -- how many columns and lines; a screen never changes its size
  pub columns : ℕ
  pub lines : ℕ
  -- the rows of the sheet that is shown, line 1 first
  pub rows : List (List Cell)
  -- the rows of the other sheet
  pub other : List (List Cell)
  -- the sheet that is shown is the alternate one
  pub alternate : Bool
  -- the cursor's line and column
  pub line : ℕ
  pub column : ℕ
  -- the next character wraps first
  pub wrap : Bool
  -- the margins of the region that scrolls
  pub top : ℕ
  pub bottom : ℕ
  -- whether a tab stops at each column
  pub tabs : List Bool

-- a screen: its picture, and for each line of the sheet that is shown the one whose row it has, as rows stood when the
-- marks were last cleared; 0 where that isn't known
pub record ScreenState : Type 0 where
  pub picture : Picture
  pub origins : List ℕ

-- each line whose origin is known has the row that this one had before (ours)
abbrev pub Told : List (List Cell) → ScreenState → Type 0
Told before s = AreTold before s.origins s.picture.rows

-- its marks tell what of the rows of before it has (ours)
abbrev pub Tells : List (List Cell) → ScreenState → Type 0
Tells before s = AreMarked before s.origins s.picture.rows

-- whatever rows a screen is told against, it is then too (ours)
abbrev pub KeepsTold : ScreenState → ScreenState → Type 0
KeepsTold s t = (before : List (List Cell)) → Told before s → Told before t

-- the cell at a line and a column of the sheet that is shown
abbrev pub cell : Picture → ℕ → ℕ → Cell
cell p line column = cell_at (row_at p.rows line) column

-- what every picture keeps: its size within the limits, the cursor on the sheet, the top margin at or
-- above the bottom one (ours)
pub record Sound (p : Picture) : Type 0 where
  pub columns_low : 2 ≤ p.columns
  pub columns_high : p.columns ≤ 1000
  pub lines_low : 1 ≤ p.lines
  pub lines_high : p.lines ≤ 500
  pub rows : length p.rows ≡ p.lines
  pub other : length p.other ≡ p.lines
  pub line_low : 1 ≤ p.line
  pub line_high : p.line ≤ p.lines
  pub column_low : 1 ≤ p.column
  pub column_high : p.column ≤ p.columns
  pub top_low : 1 ≤ p.top
  pub apart : p.top ≤ p.bottom
  pub bottom_high : p.bottom ≤ p.lines
  pub tabs : length p.tabs ≡ p.columns

-- the cursor's line is inside the margins, as it is while lines are counted from the top margin
pub record IsInRegion (p : Picture) : Type 0 where
  pub below_top : p.top ≤ p.line
  pub above_bottom : p.line ≤ p.bottom

-- what an operation keeps, and what it brings about
abbrev pub KeepsSound : (Picture → Picture) → Type 0
KeepsSound op = (p : Picture) → Sound p → Sound (op p)

abbrev pub KeepsInRegion : (Picture → Picture) → Type 0
KeepsInRegion op = (p : Picture) → Sound p → IsInRegion p → IsInRegion (op p)

abbrev pub GoesIntoRegion : (Picture → Picture) → Type 0
GoesIntoRegion op = (p : Picture) → Sound p → IsInRegion (op p)

-- a tab stops at every eighth column from 9 on (VT100: EK-VT100-UG chapter 3; on a screen of any width: xterm)
abbrev pub first_tabs : ℕ → List Bool
first_tabs columns = table columns (λ column. nat_lt 1 column && (column % 8 == 1))

-- the initial screen of so many columns and lines: both sheets blank, the main one shown (ours)
abbrev pub reset : ℕ → ℕ → Picture
reset columns lines = record {
  columns = columns;
  lines = lines;
  rows = blank_rows columns lines Default;
  other = blank_rows columns lines Default;
  alternate = false;
  line = 1;
  column = 1;
  wrap = false;
  top = 1;
  bottom = lines;
  tabs = first_tabs columns;
}
