-- Characters that are written over others.
use Rattle.std.specs.Prelude.{ℕ, ◌+◌, List, ◌++◌, drop, length, slice_set, take}
use Rattle.standings.specs.Rows.{Row, row_below}

-- these characters are written over as many of a row, from the one behind so many others on (ours)
abbrev pub row_written : ℕ → List ℕ → Row → Row
row_written before characters row =
    record row { characters = take before row.characters ++ characters ++ drop (before + length characters) row.characters }

-- and over those of the row below so many others (ours)
abbrev pub rows_written : ℕ → ℕ → List ℕ → List Row → List Row
rows_written above before characters rows = slice_set rows above (row_written before characters (row_below rows above))
