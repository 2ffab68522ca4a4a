-- Private: rows of which something is said together, by how many are above them.
use Rattle.std.specs.Prelude.{◌≡◌, ℕ, zero, suc, ◌+◌, ◌<◌, ◌≤◌, List, [], ◌++◌, drop, if◌then◌else◌, length, max, min, nat_le}
use Rattle.standings.specs.declared.place.Place.{Place}
use Rattle.standings.specs.declared.span.Span.{Span}
use Rattle.standings.specs.Rows.{Row, row_below}
use Rattle.standings.specs.Standing.{line_text, places_in}

-- as many rows, and all but these are the same
pub record Stays (span : Span) (one other : List Row) : Type 0 where
  pub count : length other ≡ length one
  pub above : (k : ℕ) → k < span.from → row_below other k ≡ row_below one k
  pub below : (k : ℕ) → span.to ≤ k → row_below other k ≡ row_below one k

abbrev pub span_of : ℕ → ℕ → Span
span_of from to = record { from = from; to = to }

-- these rows, the one below so many others, and those between
unfoldable pub widened : Span → ℕ → Span
widened span above =
    if nat_le span.to span.from then span_of above (above + 1) else span_of (min span.from above) (max span.to (above + 1))

-- the rows of two spans, and those between
unfoldable pub joined : Span → Span → Span
joined one other =
    if nat_le one.to one.from then other
    else (if nat_le other.to other.from then one else span_of (min one.from other.from) (max one.to other.to))

-- how many characters so many rows have, from the one below so many others on
abbrev pub characters_in : List Row → ℕ → ℕ → ℕ
characters_in rows above zero = 0
characters_in rows above (suc n) = length (row_below rows above).characters + characters_in rows (above + 1) n

-- the places of so many rows at which a text begins, from the one below so many others on
abbrev pub places_along : List ℕ → List Row → ℕ → ℕ → List Place
places_along text rows above zero = []
places_along text rows above (suc n) =
    places_in text above (line_text (drop above rows)) (length (row_below rows above).characters) ++ places_along text rows (above + 1) n
