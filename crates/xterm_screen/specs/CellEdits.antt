-- Cells that come into the cursor's line and that are taken out of it. The cursor stays, and a pending wrap is
-- cleared (xterm). Cells that come in are blank in the paper of the current rendition (xterm).
use Rattle.std.specs.Prelude.{ℕ, ◌+◌, ◌-◌, false, min}
use Rattle.sheet.specs.declared.rendition.Colour.{Colour}
use Rattle.sheet.specs.Edits.{inserted, deleted}
use Rattle.sheet.specs.Grid.{row_at, with_row}
use Rattle.xterm_screen.specs.Picture.{Picture}

-- so many of n cells as there are from the cursor to the last column
abbrev pub cells_left : ℕ → Picture → ℕ
cells_left n p = min n (p.columns + 1 - p.column)

-- ICH: n blank cells come in at the cursor, that cell and those right of it move right, and the row's last cells
-- are lost (ECMA-48 8.3.64)
abbrev pub cells_inserted : ℕ → Colour → Picture → Picture
cells_inserted n paper p = record p {
  rows = with_row p.line (inserted (cells_left n p) p.column paper (row_at p.rows p.line)) p.rows;
  wrap = false;
}

-- DCH: n cells from the cursor on are taken out, those right of them move left, and blank ones come in at the last
-- column (ECMA-48 8.3.26)
abbrev pub cells_deleted : ℕ → Colour → Picture → Picture
cells_deleted n paper p = record p {
  rows = with_row p.line (deleted (cells_left n p) p.column paper (row_at p.rows p.line)) p.rows;
  wrap = false;
}
