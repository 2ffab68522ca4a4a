-- Private: the rest of a row, where it is erased.
use Rattle.std.specs.Prelude.{◌≡◌, ℕ, ◌+◌, ◌-◌, ◌<◌, ◌≤◌, List, length}
use Rattle.sheet.specs.Cells.{Cell}
use Rattle.sheet.specs.Grid.{row_at}
use Rattle.sheet.specs.Halves.{Whole}
use Rattle.xterm_rows.specs.Runs.{cell_behind}
use Rattle.xterm_screen.specs.Picture.{Picture}
use Rattle.xterm_print.specs.Pieces.{BlankFrom, IsPlain}

-- behind so many cells of a row come so many plain ones, and then blank ones alone, two at least
pub record IsErasable (row : List Cell) (before count : ℕ) : Type 0 where
  pub whole : Whole row
  pub room : before + count + 2 ≤ length row
  pub plain : (k : ℕ) → k < count → IsPlain (cell_behind row (before + k))
  pub tail : BlankFrom row (before + count)

-- so many from the cursor on
pub record IsErasableAt (p : Picture) (count : ℕ) : Type 0 where
  pub columns : length (row_at p.rows p.line) ≡ p.columns
  pub row : IsErasable (row_at p.rows p.line) (p.column - 1) count
