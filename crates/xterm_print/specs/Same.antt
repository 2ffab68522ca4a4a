-- Private: rows that are compared, cell by cell.
use Rattle.std.specs.Prelude.{◌≡◌, ℕ, ◌<◌, ◌≤◌, List, slice_index_or}
use Rattle.sheet.specs.declared.rendition.Colour.TheVariants.{Default}
use Rattle.sheet.specs.Cells.{Cell, blank}

-- the cells of two rows are equal from one place to before another
abbrev pub Agree : List Cell → List Cell → ℕ → ℕ → Type 0
Agree one other from to = (k : ℕ) → from ≤ k → k < to
    → slice_index_or one k (blank Default) ≡ slice_index_or other k (blank Default)
