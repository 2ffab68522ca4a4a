-- The rows of the sheet that is shown, as a text is looked for in them (ours).
use Rattle.std.specs.Prelude.{ℕ, ◌+◌, ◌-◌, ◌&&◌, ◌||◌, Bool, List, [], ◌∷◌, ◌++◌, if◌then◌else◌, length, map, not, take}
use Rattle.std.specs.List.{flat_map}
use Rattle.sheet.specs.Cells.{Cell, is_wide}
use Rattle.sheet.specs.Grid.{row_at}
use Rattle.sheet.specs.Table.{table}
use Rattle.standings.specs.Rows.{Row}
use Rattle.xterm_rows.specs.RowText.{characters, is_space}
use Rattle.xterm_rows.specs.Runs.{cell_behind}
use Rattle.xterm_term.specs.declared.measure.Size.{Size}
use Rattle.xterm_print.specs.ChangeLines.{rows_by}

-- a row whose last cell is a space alone ends its line ..
abbrev pub ends_in_space : List Cell → Bool
ends_in_space row = is_space (cell_behind row (length row - 1))

-- .. but where the cell before it isn't one and the next row begins with a character of width 2, which may not have fit
unfoldable pub leaves_last : List Cell → List Cell → Bool
leaves_last row next =
    ends_in_space row && not (is_space (cell_behind row (length row - 2))) && is_wide (cell_behind next 0)

-- Private: whether that may be so, whatever row is next
abbrev pub heeds_next : List Cell → Bool
heeds_next row = ends_in_space row && not (is_space (cell_behind row (length row - 2)))

-- then the last cell is left out
unfoldable pub kept_cells : List Cell → List Cell → List Cell
kept_cells row next = if leaves_last row next then take (length row - 1) row else row

-- the columns of the characters of cells that begin in this column; marks stand in that of their character
abbrev pub columns_from : ℕ → List Cell → List ℕ
columns_from column [] = []
columns_from column (cell ∷ cells) = map (λ _. column) (characters cell) ++ columns_from (column + 1) cells

-- a row, by its cells and by those of the row below it
unfoldable pub row_read : List Cell → List Cell → Row
row_read row next = record {
  characters = flat_map characters (kept_cells row next);
  columns = columns_from 1 (kept_cells row next);
  runs_on = not (ends_in_space row) || leaves_last row next;
}

-- so many rows
unfoldable pub rows_read : ℕ → List (List Cell) → List Row
rows_read lines rows = table lines (λ line. row_read (row_at rows line) (row_at rows (line + 1)))

-- those of the sheet that is shown once these bytes were played
abbrev pub rows_shown : Size → List ℕ → List Row
rows_shown size bytes = rows_read size.lines (rows_by size bytes)
