-- The runs of a row: the maximal groups of neighbours of one kind among its inked cells (ours).
use Rattle.std.specs.Prelude.{◌≡◌, ℕ, ◌+◌, ◌-◌, ◌*◌, ◌≤◌, Bool, List, drop, filter, length, map, not, slice_index_or, take, ◌==◌, ◌||◌}
use Rattle.std.specs.List.{prefix_len, range_with_len}
use Rattle.vt_screen.specs.declared.cell.Cell.{Cell}
use Rattle.vt_screen.specs.declared.cell.Row.{Row}
use Rattle.vt_screen.specs.Attributes.{Attributes, bit}
use Rattle.vt_screen.specs.Cells.{blank}
use Rattle.vt_screen.specs.Limits.{wide_columns}
use Rattle.screen_rows.specs.Ink.{inked}
use Rattle.screen_rows.specs.declared.runs.Kind.{Kind}
use Rattle.screen_rows.specs.declared.runs.Run.{Run}
use Rattle.screen_rows.specs.Outlines.{is_drawn}

-- what its cells have in common: the rendition, and whether their glyphs are drawn
abbrev pub kind_of : Cell → Kind
kind_of cell = record {
  bold = cell.rendition.bold;
  underscore = cell.rendition.underscore;
  blink = cell.rendition.blink;
  reverse = cell.rendition.reverse;
  drawn = is_drawn cell.glyph;
}

-- a kind by its number: 1 bold, 2 underscore, 4 blink, 8 reverse, 16 drawn
abbrev pub kind_number : Kind → ℕ
kind_number kind =
    bit kind.bold + 2 * bit kind.underscore + 4 * bit kind.blink + 8 * bit kind.reverse + 16 * bit kind.drawn

-- whether two cells are of one kind
abbrev pub is_like : Cell → Cell → Bool
is_like one other = kind_number (kind_of one) == kind_number (kind_of other)

-- the cell behind so many others
abbrev pub cell_behind : List Cell → ℕ → Cell
cell_behind cells before = slice_index_or cells before blank

-- a run begins at the first cell, and at each one that isn't of the kind of the cell before it ..
abbrev pub begins : List Cell → ℕ → Bool
begins cells before =
    (before == 0) || not (is_like (cell_behind cells (before - 1)) (cell_behind cells before))

-- .. and goes on as long as cells are of its kind
abbrev pub run_at : List Cell → ℕ → Run
run_at cells before = record {
  before = before;
  len = prefix_len (is_like (cell_behind cells before)) (drop before cells);
  kind = kind_of (cell_behind cells before);
}

-- the runs of cells ..
abbrev pub runs_in : List Cell → List Run
runs_in cells = map (run_at cells) (filter (begins cells) (range_with_len 0 (length cells)))

-- .. and of a row
unfoldable pub runs_of : Row → List Run
runs_of row = runs_in (inked row.cells)

-- the cells of a run
abbrev pub cells_of : Row → Run → List Cell
cells_of row run = take run.len (drop run.before row.cells)

-- private: a cell with a character of ASCII in a rendition
pub record IsLetter (rendition : Attributes) (cell : Cell) : Type 0 where
  pub same : cell.rendition ≡ rendition
  pub letter : 32 ≤ cell.glyph

-- what each run of a row keeps: it has a cell, and ends within the row
pub record IsRun (run : Run) : Type 0 where
  pub some : 1 ≤ run.len
  pub within : run.before + run.len ≤ wide_columns
