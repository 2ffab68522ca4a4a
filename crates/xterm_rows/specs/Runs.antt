-- The runs of a row: the maximal groups of neighbours of one kind among its inked cells, right halves going with their
-- characters (ours).
use Rattle.std.specs.Prelude.{ℕ, ◌+◌, ◌-◌, ◌*◌, Bool, List, length, map, nat_lt, not, slice_index_or, ◌==◌, ◌&&◌, ◌||◌, if◌then◌else◌}
use Rattle.sheet.specs.declared.rendition.Colour.TheVariants.{Default}
use Rattle.sheet.specs.Cells.{Cell, blank, is_covered, is_wide}
use Rattle.xterm_rows.specs.Groups.{group_end, starts}
use Rattle.xterm_rows.specs.Ink.{attribute_number, bit, colour_number}
use Rattle.xterm_rows.specs.Outlines.{is_outlined}
use Rattle.xterm_rows.specs.declared.runs.Kind.{Kind}
use Rattle.xterm_rows.specs.declared.runs.Run.{Run}

-- the cell behind so many others
abbrev pub cell_behind : List Cell → ℕ → Cell
cell_behind cells before = slice_index_or cells before (blank Default)

-- the cell whose character stands there: of a right half the one at its left
unfoldable pub owner : List Cell → ℕ → Cell
owner cells at =
    if is_covered (cell_behind cells at) then cell_behind cells (at - 1) else cell_behind cells at

-- a character with marks
abbrev pub is_marked : Cell → Bool
is_marked cell = nat_lt 0 (length cell.marks)

-- what the characters of a run have in common: the rendition, whether they are drawn, which none with marks is, whether
-- their width is 2, and whether it is one with marks
unfoldable pub kind_of : Cell → Kind
kind_of cell = record {
  rendition = cell.rendition;
  drawn = is_outlined cell.character && not (is_marked cell);
  wide = is_wide cell;
  marked = is_marked cell;
}

-- a kind but for its colours by its number: that of the attributes, 16 drawn, 512 of width 2, 1024 with marks
unfoldable pub kind_number : Kind → ℕ
kind_number kind =
    attribute_number kind.rendition + 16 * bit kind.drawn + 512 * bit kind.wide + 1024 * bit kind.marked

-- a character goes on with the run of the one before it: it is of the same kind, and neither has marks
abbrev pub goes_on : Kind → Kind → Bool
goes_on one other =
    (kind_number one == kind_number other) && (colour_number one.rendition.ink == colour_number other.rendition.ink)
    && (colour_number one.rendition.paper == colour_number other.rendition.paper) && not one.marked

-- a run begins at the first cell, and at each character that doesn't go on with the run of the one before it ..
unfoldable pub begins : List Cell → ℕ → Bool
begins cells at =
    (at == 0)
    || (not (is_covered (cell_behind cells at))
    && not (goes_on (kind_of (owner cells (at - 1))) (kind_of (cell_behind cells at))))

-- .. and reaches to the next one
unfoldable pub run_at : List Cell → ℕ → Run
run_at cells at = record {
  before = at;
  end = group_end (begins cells) at (length cells);
  kind = kind_of (cell_behind cells at);
}

-- the runs of cells
unfoldable pub runs_in : List Cell → List Run
runs_in cells = map (run_at cells) (starts (begins cells) 0 (length cells))
