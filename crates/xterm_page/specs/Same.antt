-- When cells are the same, and when rows are.
use Rattle.std.specs.Prelude.{ℕ, Bool, true, false, List, [], ◌∷◌, length, ◌==◌, ◌&&◌, slice_index_or}
use Rattle.std.specs.List.{list_all, range_with_len}
use Rattle.sheet.specs.declared.rendition.Colour.{Colour}
use Rattle.sheet.specs.declared.rendition.Colour.TheVariants.{Default, Palette, Direct}
use Rattle.sheet.specs.declared.rendition.Rendition.{Rendition}
use Rattle.sheet.specs.declared.cell.Kind.{Kind}
use Rattle.sheet.specs.declared.cell.Kind.TheVariants.{Narrow, Wide, Covered}
use Rattle.sheet.specs.Cells.{Cell}
use Rattle.sheet.specs.Mixed.{mixed}
use Rattle.xterm_rows.specs.Ink.{attribute_number}
use Rattle.xterm_rows.specs.Runs.{cell_behind}

abbrev pub same_colour : Colour → Colour → Bool
same_colour Default Default = true
same_colour (Palette n) (Palette m) = n == m
same_colour (Direct red green blue) (Direct red' green' blue') = (red == red') && ((green == green') && (blue == blue'))
same_colour _ _ = false

-- the same attributes, ink and ground
unfoldable pub same_rendition : Rendition → Rendition → Bool
same_rendition one other =
    (attribute_number one == attribute_number other)
    && (same_colour one.ink other.ink && same_colour one.paper other.paper)

abbrev pub same_kind : Kind → Kind → Bool
same_kind Narrow Narrow = true
same_kind Wide Wide = true
same_kind Covered Covered = true
same_kind _ _ = false

-- the same marks in the same order
abbrev pub same_mark : List ℕ → List ℕ → ℕ → Bool
same_mark one other n = slice_index_or one n 0 == slice_index_or other n 0

unfoldable pub same_marks : List ℕ → List ℕ → Bool
same_marks one other =
    (length one == length other) && list_all (same_mark one other) (range_with_len 0 (length one))

-- the same character with the same marks in the same rendition, or the right halves of such
unfoldable pub same_cell : Cell → Cell → Bool
same_cell one other =
    (one.character == other.character)
    && (same_rendition one.rendition other.rendition
    && (same_kind one.kind other.kind && same_marks one.marks other.marks))

abbrev pub same_at : List Cell → List Cell → ℕ → Bool
same_at one other at = same_cell (cell_behind one at) (cell_behind other at)

-- the same cells
unfoldable pub same_row : List Cell → List Cell → Bool
same_row one other =
    (length one == length other) && list_all (same_at one other) (range_with_len 0 (length one))

-- ---- private: a number that most rows don't share

-- the cells of a row are mixed into a number from the last one on, from one on to which blank cells add nothing
abbrev pub row_number : List Cell → ℕ
row_number [] = 3316033757095235816
row_number (cell ∷ cells) = mixed (row_number cells) cell
