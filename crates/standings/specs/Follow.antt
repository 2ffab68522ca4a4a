-- Private: rows that become those of others.
use Rattle.std.specs.Prelude.{◌≡◌, ℕ, ◌-◌, ◌<◌, ◌≤◌, ◌&&◌, Bool, false, List, length, nat_le}
use Rattle.standings.specs.Rows.{Row, row_below}

-- whether a row has at least as many characters and columns as another
abbrev pub has_length : Row → Row → Bool
has_length row other = nat_le (length other.characters) (length row.characters) && nat_le (length other.columns) (length row.columns)

-- the rows from one up to and without another that have not, each have a copy of the other here
abbrev pub AreCopies : ℕ → ℕ → List Row → List Row → List Row → Type 0
AreCopies from to rows others copies =
    (k : ℕ) → from ≤ k → k < to → has_length (row_below rows k) (row_below others k) ≡ false
    → (k - from < length copies) × (row_below copies (k - from) ≡ row_below others k)
