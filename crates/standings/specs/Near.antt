-- Private: what is looked for around characters that were written.
use Rattle.std.specs.Prelude.{◌≡◌, ◌⊎◌, ℕ, ◌+◌, ◌-◌, ◌<◌, ◌≤◌, false, List, filter, length, map}
use Rattle.std.specs.List.{range_with_len}
use Rattle.standings.specs.Rows.{Row, row_below}
use Rattle.standings.specs.Standing.{begins, place_at, place_in}
use Rattle.standings.specs.declared.place.Place.{Place}

-- the places of so many characters of a row, from one on, at which a text begins in a line
abbrev pub places_part : List ℕ → ℕ → List ℕ → ℕ → ℕ → List Place
places_part text above line start count = map (place_in above) (filter (begins text line) (range_with_len start count))

-- a place stands before a character of a row, in reading order ..
abbrev pub IsEarly : Place → ℕ → ℕ → Type 0
IsEarly place above before = (place.above ≤ above) × (place.above ≡ above → place.before < before)

-- .. or doesn't
abbrev pub IsLate : Place → ℕ → ℕ → Type 0
IsLate place above before = (above ≤ place.above) × (place.above ≡ above → before ≤ place.before)

-- places come in the order of their rows
abbrev pub IsOrdered : List Place → Type 0
IsOrdered places = (i j : ℕ) → i ≤ j → j < length places → (place_at places i).above ≤ (place_at places j).above

-- places that stand before a part of a row, in it and behind it
pub record IsCut (above start end : ℕ) (front middle rest : List Place) : Type 0 where
  pub early : (j : ℕ) → j < length front → IsEarly (place_at front j) above start
  pub low : (j : ℕ) → j < length middle → IsLate (place_at middle j) above start
  pub high : (j : ℕ) → j < length middle → IsEarly (place_at middle j) above end
  pub late : (j : ℕ) → j < length rest → IsLate (place_at rest j) above end

-- no text that begins above a row goes on in it behind so many characters: it is too short, or the row above doesn't run on
abbrev pub IsClear : List Row → ℕ → ℕ → List ℕ → Type 0
IsClear rows above before text = (length text ≤ before + 1) ⊎ (0 < above → (row_below rows (above - 1)).runs_on ≡ false)
