-- Halves of wide characters.
use Rattle.std.specs.Prelude.{◌≡◌, ℕ, ◌+◌, ◌-◌, Bool, not, ◌&&◌, ◌||◌, ◌==◌, List, length, if◌then◌else◌}
use Rattle.sheet.specs.declared.rendition.Colour.{Colour}
use Rattle.sheet.specs.Table.{table}
use Rattle.sheet.specs.Cells.{Cell, blank, is_wide, is_covered, cell_at}

-- a cell of width 2 that isn't followed by a covered one, or a covered one that doesn't follow such a cell (xterm)
abbrev pub is_half : Cell → Cell → Cell → Bool
is_half before cell after = (is_wide cell && not (is_covered after)) || (is_covered cell && not (is_wide before))

-- each half becomes blank, in this paper (xterm)
abbrev pub mended : Colour → List Cell → List Cell
mended paper row = table (length row) (λ column.
    if is_half (cell_at row (column - 1)) (cell_at row column) (cell_at row (column + 1))
    then blank paper
    else cell_at row column)

-- the halves on both sides of a column's left border become blank (ours)
abbrev pub border_mended : ℕ → Colour → List Cell → List Cell
border_mended border paper row = table (length row) (λ column.
    if (column + 1 == border && is_wide (cell_at row column) && not (is_covered (cell_at row border)))
    || (column == border && is_covered (cell_at row column) && not (is_wide (cell_at row (border - 1))))
    then blank paper
    else cell_at row column)

-- covered cells are those that follow one of width 2 (xterm)
abbrev pub Whole : List Cell → Type 0
Whole row = (column : ℕ) → is_covered (cell_at row (column + 1)) ≡ is_wide (cell_at row column)

-- the character that lies on both sides of a column's left border becomes blank (xterm)
abbrev pub parted : ℕ → Colour → List Cell → List Cell
parted border paper row = table (length row) (λ column.
    if is_covered (cell_at row border) && (column == border || column + 1 == border)
    then blank paper
    else cell_at row column)
