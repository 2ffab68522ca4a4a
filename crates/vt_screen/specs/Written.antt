-- Private: parts of a row that are written at once, and what else the bodies below the operations leave (ours).
use Rattle.std.specs.Prelude.{ℕ, ◌+◌, List, [], ◌∷◌, fold, nat_le, nat_lt, slice_set, ◌&&◌, if◌then◌else◌}
use Rattle.std.specs.List.{range_with_len}
use Rattle.vt_screen.specs.declared.cell.Cell.{Cell}
use Rattle.vt_screen.specs.declared.cell.Row.{Row}
use Rattle.vt_screen.specs.Attributes.{Attributes}
use Rattle.vt_screen.specs.Cells.{cell_at, row_by, rows_by, row_at}
use Rattle.vt_screen.specs.Lines.{filled_to}
use Rattle.vt_screen.specs.Puts.{with_cell, with_row}
use Rattle.vt_screen.specs.Slots.{Held, slot_at, row_in, rows_of}

-- the cells from one column to another are all this one
abbrev pub filled : ℕ → ℕ → Cell → Row → Row
filled from to cell row = row_by row.size (λ column.
    if nat_le from column && nat_le column to then cell else cell_at row column)

-- glyphs from a column on, one cell each
abbrev pub written : ℕ → List ℕ → Attributes → Row → Row
written column [] rendition row = row
written column (glyph ∷ glyphs) rendition row =
    written (column + 1) glyphs rendition (with_cell column (record { glyph = glyph; rendition = rendition }) row)

-- the row of one line is changed, and the others stay
abbrev pub line_changed : (Row → Row) → ℕ → Held → List Row
line_changed change line held = with_row line (change (row_at (rows_of held) line)) (rows_of held)

-- the rows from one line to before another are changed, and the others stay
abbrev pub lines_changed : (Row → Row) → ℕ → ℕ → List Row → List Row
lines_changed change from to rows =
    rows_by (λ line. if nat_le from line && nat_lt line to then change (row_at rows line) else row_at rows line)

-- each line becomes another one of these
abbrev pub lines_taken : (ℕ → ℕ) → List Row → List Row
lines_taken source rows = rows_by (λ line. row_at rows (source line))

-- the slots of n lines from one on are filled to a column with one cell, single width
unfoldable pub slots_filled : Cell → ℕ → ℕ → ℕ → List ℕ → List Row → List Row
slots_filled cell to first n order slots =
    fold (λ rows line. slice_set rows (slot_at order line) (filled_to cell to (row_in rows (slot_at order line))))
    slots (range_with_len first n)
