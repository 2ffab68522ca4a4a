-- Changes of one row, as values.
use Rattle.std.specs.Prelude.{ℕ, ◌+◌, ◌≤◌, false, true, List}
use Rattle.sheet.specs.declared.edit.Edit.{Edit}
use Rattle.sheet.specs.declared.edit.Edit.TheVariants.{Erase, Narrow, Wide, Mark, Insert, Delete}
use Rattle.sheet.specs.Cells.{Cell}
use Rattle.sheet.specs.Edits.{erased, put, mark_added, inserted, deleted}

-- what a change makes of a row (ours)
abbrev pub edited : Edit → List Cell → List Cell
edited (Erase from to paper) row = erased from to paper row
edited (Narrow column character rendition) row = put column character false rendition row
edited (Wide column character rendition) row = put column character true rendition row
edited (Mark column mark) row = mark_added column mark row
edited (Insert n from paper) row = inserted n from paper row
edited (Delete n from paper) row = deleted n from paper row

-- it stays within so many columns (ours)
abbrev pub Fits : ℕ → Edit → Type 0
Fits columns (Erase from to paper) = (1 ≤ from) × (from ≤ to) × (to ≤ columns)
Fits columns (Narrow column character rendition) = (1 ≤ column) × (column ≤ columns)
Fits columns (Wide column character rendition) = (1 ≤ column) × (column + 1 ≤ columns)
Fits columns (Mark column mark) = (1 ≤ column) × (column ≤ columns)
Fits columns (Insert n from paper) = (1 ≤ from) × (from + n ≤ columns + 1)
Fits columns (Delete n from paper) = (1 ≤ from) × (from + n ≤ columns + 1)
