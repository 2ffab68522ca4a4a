-- Characters that are shown.
use Rattle.std.specs.Prelude.{ℕ, ◌+◌, Bool, List, ◌==◌, fold, if◌then◌else◌}
use Rattle.vt_screen.specs.declared.cell.Cell.{Cell}
use Rattle.vt_screen.specs.declared.cell.Row.{Row}
use Rattle.vt_screen.specs.Attributes.{Attributes}
use Rattle.vt_screen.specs.Cells.{row_at, cell_at, rows_by, row_by}
use Rattle.vt_screen.specs.Picture.{Picture, right_margin}
use Rattle.vt_screen.specs.Moves.{moved_to_left}
use Rattle.vt_screen.specs.Scrolls.{indexed}

-- the row at one line is another, and the others stay
abbrev pub with_row : ℕ → Row → List Row → List Row
with_row at row rows = rows_by (λ line. if line == at then row else row_at rows line)

-- the cell at one column is another, and the others and the size stay
abbrev pub with_cell : ℕ → Cell → Row → Row
with_cell at cell row = row_by row.size (λ column. if column == at then cell else cell_at row column)

-- a pending wrap is taken: column 1 of the next line (EK-VT100-UG chapter 3, DECAWM; that it waits: ours)
abbrev pub wrap_taken : Picture → Picture
wrap_taken p = if p.wrap then indexed (moved_to_left p) else p

-- the cell at the cursor is written; at the right margin the cursor stays and the wrap becomes pending
-- where autowrap is set, else the cursor goes one to the right (EK-VT100-UG chapter 3, DECAWM; pending: ours)
abbrev pub put : Cell → Bool → Picture → Picture
put cell autowrap p =
    let rows = with_row p.line (with_cell p.column cell (row_at p.rows p.line)) p.rows in
    if p.column == right_margin p p.line
    then record p { rows = rows; wrap = autowrap }
    else record p { rows = rows; column = p.column + 1 }

-- a character is shown: the pending wrap first, then its cell (ours)
abbrev pub shown : ℕ → Attributes → Bool → Picture → Picture
shown glyph rendition autowrap p = put (record { glyph = glyph; rendition = rendition }) autowrap (wrap_taken p)

-- characters are shown one after another
abbrev pub run_shown : List ℕ → Attributes → Bool → Picture → Picture
run_shown glyphs rendition autowrap p = fold (λ q glyph. shown glyph rendition autowrap q) p glyphs
