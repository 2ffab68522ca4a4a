-- Private: rows that are kept up to their last cell that isn't blank.
use Rattle.std.specs.Prelude.{ℕ, ◌-◌, ◌≤◌, List, length}
use Rattle.sheet.specs.Table.{table}
use Rattle.sheet.specs.Cells.{Cell, cell_at}
use Rattle.sheet.specs.Halves.{Whole}
use Rattle.sheet.specs.Grid.{Grid, no_origins}
use Rattle.sheet.specs.Held.{row_in}

-- a row of which these are the first cells; behind them all are blank
abbrev pub unpacked : ℕ → List Cell → List Cell
unpacked columns kept = table columns (λ column. cell_at kept column)

-- the sheet of these rows, of which no origin is known
abbrev pub packed_grid : ℕ → List (List Cell) → Grid
packed_grid columns kept = record {
  columns = columns;
  lines = length kept;
  rows = table (length kept) (λ line. unpacked columns (row_in kept (line - 1)));
  origins = no_origins (length kept);
}

-- they are the rows of a sheet
pub record IsPacked (columns : ℕ) (kept : List (List Cell)) : Type 0 where
  pub columns_low : 2 ≤ columns
  pub columns_high : columns ≤ 1000
  pub lines_low : 1 ≤ length kept
  pub lines_high : length kept ≤ 500
  pub short : (slot : ℕ) → length (row_in kept slot) ≤ columns
  pub whole : (slot : ℕ) → Whole (unpacked columns (row_in kept slot))
