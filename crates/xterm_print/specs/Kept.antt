-- Private: rows that were kept of a sheet.
use Rattle.std.specs.Prelude.{◌≡◌, ℕ, ◌+◌, ◌<◌, ◌≤◌, false, true, List, length}
use Rattle.sheet.specs.Cells.{Cell}
use Rattle.sheet.specs.Grid.{row_at}
use Rattle.xterm_term.specs.declared.measure.Size.{Size}
use Rattle.xterm_print.specs.declared.moved.Apart.{Apart}
use Rattle.xterm_print.specs.ChangeLines.{rows_by, same_row}

-- a row of so many columns has the same cells as the other
pub record Follows (width : ℕ) (row other : List Cell) : Type 0 where
  pub columns : length row ≡ width
  pub same : same_row row other ≡ true

-- these are so many rows, each the same as the row of its line
pub record FollowAll (height width : ℕ) (rows others : List (List Cell)) : Type 0 where
  pub lines : length rows ≡ height
  pub row : (line : ℕ) → 1 ≤ line → line ≤ height → Follows width (row_at rows line) (row_at others line)

-- of two lists of rows those from one line to before another are the same, and have so many columns
abbrev pub FollowLines : ℕ → ℕ → ℕ → List (List Cell) → List (List Cell) → Type 0
FollowLines from to width rows others = (line : ℕ) → from ≤ line → line < to → Follows width (row_at rows line) (row_at others line)

-- of these lines two rows so many lines apart differ
pub record AreApart (apart : Apart) (rows : List (List Cell)) : Type 0 where
  pub low : 1 ≤ apart.from
  pub differ : (k : ℕ) → apart.from ≤ k → k + apart.shift < apart.end → same_row (row_at rows k) (row_at rows (k + apart.shift)) ≡ false

-- they are those of the sheet that is shown once these bytes were played
abbrev pub AreKept : Size → List (List Cell) → List ℕ → Type 0
AreKept size rows bytes = FollowAll size.lines size.columns rows (rows_by size bytes)
