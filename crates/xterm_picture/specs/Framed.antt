-- The rows, each where it stands (ours).
use Rattle.std.specs.Prelude.{ℕ, Bool, List, ◌++◌, length}
use Rattle.sheet.specs.Cells.{Cell}
use Rattle.sheet.specs.Grid.{row_at}
use Rattle.xterm_rows.specs.Ink.{inked}
use Rattle.xterm_picture.specs.Cursor.{framed}
use Rattle.xterm_picture.specs.Grounds.{by_line}
use Rattle.xterm_picture.specs.Letters.{letters_text}
use Rattle.xterm_picture.specs.Strokes.{strokes_text}

-- the letters and the strokes of cells
unfoldable pub cells_text : Bool → List Cell → List ℕ
cells_text reversed cells = letters_text reversed cells ++ strokes_text reversed cells

-- a row
unfoldable pub row_text : Bool → List (List Cell) → ℕ → List ℕ
row_text reversed rows line = framed line (cells_text reversed (inked (row_at rows line)))

-- the rows, a line for each
unfoldable pub rows_text : Bool → List (List Cell) → List ℕ
rows_text reversed rows = by_line (row_text reversed rows) (length rows)
