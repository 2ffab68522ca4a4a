-- Erasing in the display, in a line and from the cursor on. The cursor stays, and a pending wrap is cleared
-- (xterm). Erased cells are blank in the paper of the current rendition (erased in colour: xterm).
use Rattle.std.specs.Prelude.{ℕ, zero, suc, ◌+◌, ◌-◌, false, min}
use Rattle.sheet.specs.declared.rendition.Colour.{Colour}
use Rattle.sheet.specs.Edits.{erased}
use Rattle.sheet.specs.Grid.{lines_erased, row_at, with_row}
use Rattle.xterm_screen.specs.Picture.{Picture}

-- the columns of the cursor's line: part 0 from the cursor to the end, part 1 from the start to the cursor, part 2
-- all, each with the cursor's cell (ECMA-48 8.3.41, EL)
abbrev pub first_column : ℕ → ℕ → ℕ
first_column zero cursor = cursor
first_column (suc part) cursor = 1

abbrev pub last_column : ℕ → ℕ → ℕ → ℕ
last_column zero cursor columns = columns
last_column (suc zero) cursor columns = cursor
last_column (suc (suc part)) cursor columns = columns

-- the other lines: part 0 those below the cursor's, part 1 those above it, part 2 all (ECMA-48 8.3.39, ED)
abbrev pub first_line : ℕ → ℕ → ℕ
first_line zero cursor = cursor + 1
first_line (suc part) cursor = 1

abbrev pub last_line : ℕ → ℕ → ℕ → ℕ
last_line zero cursor lines = lines
last_line (suc zero) cursor lines = cursor - 1
last_line (suc (suc part)) cursor lines = lines

-- the cells from one column to another of the cursor's line are blank
abbrev pub columns_erased : ℕ → ℕ → Colour → Picture → Picture
columns_erased from to paper p = record p {
  rows = with_row p.line (erased from to paper (row_at p.rows p.line)) p.rows;
  wrap = false;
}

-- EL: the cells of the part on the cursor's line are blank (ECMA-48 8.3.41)
abbrev pub line_erased : ℕ → Colour → Picture → Picture
line_erased part paper p =
    columns_erased (first_column part p.column) (last_column part p.column p.columns) paper p

-- ED: the cells of the part are blank, on the cursor's line as by EL, and the other lines whole (ECMA-48 8.3.39)
abbrev pub display_erased : ℕ → Colour → Picture → Picture
display_erased part paper p =
    let q = line_erased part paper p in
    record q {
      rows = lines_erased (first_line part p.line) (last_line part p.line p.lines) p.columns paper q.rows;
    }

-- ECH: n cells from the cursor on are blank, at most to the last column (ECMA-48 8.3.38)
abbrev pub cells_erased : ℕ → Colour → Picture → Picture
cells_erased n paper p = columns_erased p.column (min (p.column + (n - 1)) p.columns) paper p
