-- Cells, and rows of 132 of them with a size.
use Rattle.std.specs.Prelude.{ℕ, Bool, true, false, List, replicate}
use Rattle.vt_screen.specs.declared.cell.Cell.{Cell}
use Rattle.vt_screen.specs.declared.cell.Size.{Size}
use Rattle.vt_screen.specs.declared.cell.Size.TheVariants.{Single}
use Rattle.vt_screen.specs.declared.cell.Row.{Row}
use Rattle.vt_screen.specs.Attributes.{plain}
use Rattle.vt_screen.specs.Table.{table, nth}
use Rattle.vt_screen.specs.Limits.{line_count, wide_columns}

-- a space without rendition (ours)
abbrev pub blank : Cell
blank = record { glyph = 32; rendition = plain }

-- 132 blank cells
unfoldable pub blank_cells : List Cell
blank_cells = replicate wide_columns blank

-- blank and single width: the row that enters as lines scroll (ours)
abbrev pub blank_row : Row
blank_row = record { size = Single; cells = blank_cells }

-- the cell of a row at a column
abbrev pub cell_at : Row → ℕ → Cell
cell_at row column = nth blank row.cells column

-- the row at a line
abbrev pub row_at : List Row → ℕ → Row
row_at rows line = nth blank_row rows line

-- double width and both halves of double height are double sizes (EK-VT100-UG chapter 3, line attributes)
abbrev pub is_single : Size → Bool
is_single Single = true
is_single _ = false

-- 24 rows, each told by its line
abbrev pub rows_by : (ℕ → Row) → List Row
rows_by f = table line_count f

-- a row of this size whose 132 cells are told by their column
abbrev pub row_by : Size → (ℕ → Cell) → Row
row_by size f = record { size = size; cells = table wide_columns f }
