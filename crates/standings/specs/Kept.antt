-- What of a text stays between two screens.
use Rattle.std.specs.Prelude.{ℕ, ◌+◌, ◌<◌, ◌≤◌, ◌==◌, List, if◌then◌else◌, length}
use Rattle.standings.specs.Rows.{Row, row_below}
use Rattle.standings.specs.Standing.{count_left, place_at, standing}
use Rattle.standings.specs.declared.place.Place.{Place}

-- each left part has as many places on another screen
abbrev pub Keeps : List ℕ → List Row → List Row → Type 0
Keeps text one other = (left : List ℕ) → count_left one (standing text one) left ≤ count_left other (standing text other) left

-- how many characters of a row come before those that are written in the row below so many others, behind so many; of a row above it all
abbrev pub room_in : List Row → ℕ → ℕ → ℕ → ℕ
room_in rows above before k = if k == above then before else length (row_below rows k).characters

-- a text of so many characters ends before what is written, at each of these places that isn't in a row below
abbrev pub EndBy : ℕ → List Row → List Place → ℕ → ℕ → Type 0
EndBy len rows places above before =
    (n : ℕ) → n < length places → (place_at places n).above ≤ above → (place_at places n).before + len ≤ room_in rows above before (place_at places n).above
