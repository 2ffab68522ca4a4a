-- The cursor: two rings, one of the ground and one of ink, so that it shows on any cell (ours).
use Rattle.std.specs.Prelude.{ℕ, ◌+◌, ◌-◌, ◌*◌, Bool, List, [], ◌∷◌, ◌++◌, codes, decimal, ◌||◌, if◌then◌else◌}
use Rattle.sheet.specs.Cells.{Cell, is_covered, is_wide}
use Rattle.sheet.specs.Grid.{row_at}
use Rattle.xterm_rows.specs.Runs.{cell_behind}
use Rattle.xterm_picture.specs.Attributes.{back_of, text_where}
use Rattle.xterm_picture.specs.Grounds.{down}

-- a row is moved down to its line
unfoldable pub opened : ℕ → List ℕ
opened line = codes "<g transform=\"translate(0 " ++ decimal (down line) ++ codes ")\">"

-- what is drawn on a line, as a line of the file
abbrev pub framed : ℕ → List ℕ → List ℕ
framed line drawn = opened line ++ drawn ++ codes "</g>\n"

-- how many cells stand before it, at a column where this cell stands: on a right half it stands round the whole
-- character
unfoldable pub cells_before : Cell → ℕ → ℕ
cells_before cell column = if is_covered cell then column - 2 else column - 1

-- whether it stands round two columns
unfoldable pub is_double : Cell → Bool
is_double cell = is_covered cell || is_wide cell

-- the outer ring, and the inner one
abbrev pub outer_ring : Bool → List ℕ
outer_ring wide = if wide then codes " 0h20v20h-20zm1 1v18h18v-18z" else codes " 0h10v20h-10zm1 1v18h8v-18z"

abbrev pub inner_ring : Bool → List ℕ
inner_ring wide = if wide then codes " 1h18v18h-18zm1 1v16h16v-16z" else codes " 1h8v18h-8zm1 1v16h6v-16z"

-- the rings behind so many cells
unfoldable pub rings_text : Bool → ℕ → Bool → List ℕ
rings_text reversed before wide =
    codes "<path class=\"" ++ back_of reversed ∷ [] ++ codes "\" d=\"M" ++ decimal (10 * before) ++ outer_ring wide
    ++ codes "\"/><path d=\"M" ++ decimal (10 * before + 1) ++ inner_ring wide ++ codes "\"/>"

-- the cursor at a column where this cell stands
unfoldable pub cell_mark : Bool → Cell → ℕ → List ℕ
cell_mark reversed cell column = rings_text reversed (cells_before cell column) (is_double cell)

-- the cursor at a column of a row
abbrev pub mark_text : Bool → List Cell → ℕ → List ℕ
mark_text reversed row column = cell_mark reversed (cell_behind row (column - 1)) column

-- its line of the file, which is empty where the cursor is hidden
unfoldable pub cursor_text : Bool → Bool → List (List Cell) → ℕ → ℕ → List ℕ
cursor_text reversed shown rows line column =
    framed line (text_where shown (mark_text reversed (row_at rows line) column))
