-- A picture that is drawn on a blank screen, line by line and in a line cell by cell from column 1 on.
use Rattle.std.specs.Prelude.{ℕ, ◌-◌, List, nat_le, if◌then◌else◌}
use Rattle.vt_screen.specs.declared.cell.Row.{Row}
use Rattle.vt_screen.specs.Cells.{blank, blank_row, cell_at, row_at, row_by, rows_by}
use Rattle.vt_screen.specs.Puts.{with_row}

-- the rows up to a line, and blank ones below it
abbrev pub rows_to : ℕ → List Row → List Row
rows_to line rows = rows_by (λ k. if nat_le k line then row_at rows k else blank_row)

-- the cells up to a column, and blank ones right of it
abbrev pub cells_to : ℕ → Row → Row
cells_to column row = row_by row.size (λ k. if nat_le k column then cell_at row k else blank)

-- the rows above a line, and of that line the cells up to a column
abbrev pub drawn_to : ℕ → ℕ → List Row → List Row
drawn_to line column rows = with_row line (cells_to column (row_at rows line)) (rows_to (line - 1) rows)
