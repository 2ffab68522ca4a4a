-- Rows of characters, as a text is looked for in them (ours).
use Rattle.std.specs.Prelude.{ℕ, Bool, false, List, [], slice_index_or}

-- a row: its characters, the column in which each of them stands, and whether it runs on into the next row
pub record Row : Type 0 where
  pub characters : List ℕ
  pub columns : List ℕ
  pub runs_on : Bool

-- one without a character
abbrev pub empty_row : Row
empty_row = record { characters = []; columns = []; runs_on = false }

-- the row below so many others
abbrev pub row_below : List Row → ℕ → Row
row_below rows above = slice_index_or rows above empty_row
