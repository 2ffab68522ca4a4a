-- Private: numbers of rows, by which the first line that was a row is found.
use Rattle.std.specs.Prelude.{◌≡◌, ℕ, zero, suc, ◌+◌, ◌*◌, ◌/◌, ◌%◌, ◌≤◌, List, slice_index_or}
use Rattle.vt_screen.specs.declared.cell.Cell.{Cell}
use Rattle.vt_screen.specs.declared.cell.Row.{Row}
use Rattle.vt_screen.specs.Attributes.{byte_of}
use Rattle.vt_screen.specs.Cells.{row_at}
use Rattle.vt_screen.specs.Limits.{line_count, narrow_columns}
use Rattle.vt_screen.specs.Table.{nth}
use Rattle.screen_rows.specs.Runs.{cell_behind}

-- the cell behind so many others by one number
abbrev pub number_at : List Cell → ℕ → ℕ
number_at cells at = 256 * byte_of (cell_behind cells at).rendition + (cell_behind cells at).glyph

-- so many cells by one number that most others don't have, below 2^16
unfoldable pub mixed : List Cell → ℕ → ℕ
mixed cells zero = 0
mixed cells (suc n) = (mixed cells n + number_at cells n * (2 * n + 1) % 65536) % 65536

-- the number of a row
abbrev pub row_number : Row → ℕ
row_number row = mixed row.cells narrow_columns

-- the bucket of a number, below 256
abbrev pub bucket_of : ℕ → ℕ
bucket_of number = number * 40503 % 65536 / 256

-- the number of a line
abbrev pub number_at_line : List ℕ → ℕ → ℕ
number_at_line numbers line = nth 0 numbers line

-- each line has the number of its row
abbrev pub AreNumbers : List Row → List ℕ → Type 0
AreNumbers rows numbers =
    (line : ℕ) → 1 ≤ line → line ≤ line_count → number_at_line numbers line ≡ row_number (row_at rows line)

-- the number of a line is that of a row; line 0 tells nothing
pub record IsCarried (numbers : List ℕ) (source : ℕ) (row : Row) : Type 0 where
  pub high : source ≤ line_count
  pub same : 1 ≤ source → number_at_line numbers source ≡ row_number row

-- the same of the rows of all lines
abbrev pub AreCarried : List ℕ → List ℕ → List Row → Type 0
AreCarried numbers sources rows =
    (line : ℕ) → 1 ≤ line → line ≤ line_count → IsCarried numbers (nth 0 sources line) (row_at rows line)

-- a line, or one above it
pub record IsFirst (first line : ℕ) : Type 0 where
  pub low : 1 ≤ first
  pub high : first ≤ line

-- for the number of each line its bucket has that line, or one above it
abbrev pub AreFirsts : List ℕ → List ℕ → Type 0
AreFirsts numbers firsts =
    (line : ℕ) → 1 ≤ line → line ≤ line_count
    → IsFirst (slice_index_or firsts (bucket_of (number_at_line numbers line)) 0) line
