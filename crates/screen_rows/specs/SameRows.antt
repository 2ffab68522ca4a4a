-- When two rows are the same, and which lines of a screen differ.
use Rattle.std.specs.Prelude.{ℕ, Bool, List, filter, not, ◌==◌, ◌&&◌}
use Rattle.std.specs.Cmp.Lexicographic.{pointwise}
use Rattle.std.specs.List.{range_with_len}
use Rattle.vt_screen.specs.declared.cell.Cell.{Cell}
use Rattle.vt_screen.specs.declared.cell.Row.{Row}
use Rattle.vt_screen.specs.declared.cell.Size.{Size}
use Rattle.vt_screen.specs.declared.cell.Size.TheVariants.{Single, Double, Top, Bottom}
use Rattle.vt_screen.specs.Attributes.{byte_of}
use Rattle.vt_screen.specs.Cells.{row_at}
use Rattle.vt_screen.specs.Limits.{line_count}

-- the sizes by number
abbrev pub size_number : Size → ℕ
size_number Single = 0
size_number Double = 1
size_number Top = 2
size_number Bottom = 3

abbrev pub same_cell : Cell → Cell → Bool
same_cell one other =
    (one.glyph == other.glyph) && (byte_of one.rendition == byte_of other.rendition)

-- the same size and the same cells
abbrev pub same_row : Row → Row → Bool
same_row one other =
    (size_number one.size == size_number other.size) && pointwise same_cell one.cells other.cells

-- whether the size or the cells of a line differ
abbrev pub is_changed : List Row → List Row → ℕ → Bool
is_changed before after line = not (same_row (row_at before line) (row_at after line))

-- the lines that differ, of all from line 1 on
unfoldable pub changed_lines : List Row → List Row → List ℕ
changed_lines before after = filter (is_changed before after) (range_with_len 1 line_count)
