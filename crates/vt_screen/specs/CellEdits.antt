-- Cells that are taken out of the cursor's line, and that make room in it (VT102 editing).
use Rattle.std.specs.Prelude.{ℕ, ◌+◌, ◌-◌, Bool, nat_lt, nat_le, ◌&&◌, if◌then◌else◌}
use Rattle.vt_screen.specs.declared.cell.Row.{Row}
use Rattle.vt_screen.specs.Attributes.{Attributes}
use Rattle.vt_screen.specs.Cells.{blank, cell_at, row_at, row_by}
use Rattle.vt_screen.specs.Picture.{Picture, right_margin}
use Rattle.vt_screen.specs.Puts.{with_row, wrap_taken, put}

-- n cells from a column on are taken out: those right of them up to the margin move left, with their
-- renditions, and blank cells come in at the margin (VT102 User Guide, DCH; that they are blank: ours)
abbrev pub taken_out : ℕ → ℕ → ℕ → Row → Row
taken_out n from margin row = row_by row.size (λ column.
    if nat_le from column && nat_le column margin
    then (if nat_le (column + n) margin then cell_at row (column + n) else blank)
    else cell_at row column)

-- DCH: n cells from the cursor on; cursor and wrap stay (VT102 User Guide, DCH; what stays: ours)
abbrev pub cells_deleted : ℕ → Picture → Picture
cells_deleted n p = record p {
  rows = with_row p.line (taken_out n p.column (right_margin p p.line) (row_at p.rows p.line)) p.rows;
}

-- the cells from a column on move one to the right, and the one at the margin is lost (VT102 User
-- Guide, IRM)
abbrev pub moved_right : ℕ → ℕ → Row → Row
moved_right from margin row = row_by row.size (λ column.
    if nat_lt from column && nat_le column margin then cell_at row (column - 1) else cell_at row column)

-- those from the cursor on make room for one
abbrev pub room_made : Picture → Picture
room_made p = record p {
  rows = with_row p.line (moved_right p.column (right_margin p p.line) (row_at p.rows p.line)) p.rows;
}

-- a character is shown in insert mode: the pending wrap first, then room, then its cell (VT102 User
-- Guide, IRM; the order: ours)
abbrev pub shown_inserting : ℕ → Attributes → Bool → Picture → Picture
shown_inserting glyph rendition autowrap p =
    put (record { glyph = glyph; rendition = rendition }) autowrap (room_made (wrap_taken p))
