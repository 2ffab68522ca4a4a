-- Where a text stands on rows of characters, and what of it went between two screens (ours).
use Rattle.std.specs.Prelude.{ℕ, ◌+◌, ◌&&◌, ◌==◌, Bool, List, [], ◌∷◌, ◌++◌, drop, filter, if◌then◌else◌, length, map, nat_eq, nat_le, slice_index_or, take}
use Rattle.std.specs.Cmp.Lexicographic.{pointwise}
use Rattle.std.specs.List.{count_by, range_with_len, starts_with}
use Rattle.standings.specs.Rows.{Row, row_below}
use Rattle.standings.specs.declared.place.Place.{Place}

-- ---- where it stands

-- a line's text from the first of these rows on: the rows to the one that doesn't run on, joined
unfoldable pub line_text : List Row → List ℕ
line_text [] = []
line_text (row ∷ rows) = row.characters ++ (if row.runs_on then line_text rows else [])

-- whether a text begins in a line behind so many characters
abbrev pub begins : List ℕ → List ℕ → ℕ → Bool
begins text line before = starts_with nat_eq (drop before line) text

-- a place: how many rows are above it, and how many characters before it in its row
abbrev pub place_in : ℕ → ℕ → Place
place_in above before = record { above = above; before = before }

-- the places of a row of so many characters at which a text begins in a line
abbrev pub places_in : List ℕ → ℕ → List ℕ → ℕ → List Place
places_in text above line count = map (place_in above) (filter (begins text line) (range_with_len 0 count))

-- the places at which a text begins in a line, in reading order, where so many rows are above the first
unfoldable pub places_from : List ℕ → ℕ → List Row → List Place
places_from text above [] = []
places_from text above (row ∷ rows) =
    places_in text above (line_text (row ∷ rows)) (length row.characters) ++ places_from text (above + 1) rows

-- where a text stands on a screen
abbrev pub standing : List ℕ → List Row → List Place
standing text rows = places_from text 0 rows

-- ---- what went

-- what stands left of a place in its row: the left part of a found text, without the text, which ends all of them
abbrev pub left_of : List Row → Place → List ℕ
left_of rows place = take place.before (row_below rows place.above).characters

-- how many of these places have the same to the left
abbrev pub count_left : List Row → List Place → List ℕ → ℕ
count_left rows places left = count_by (λ place. pointwise nat_eq (left_of rows place) left) places

-- the place of this number
abbrev pub place_at : List Place → ℕ → Place
place_at places n = slice_index_or places n (place_in 0 0)

-- whether place n among those of one screen is less on the other: at least as many places before it have the same to
-- the left as there are in all on the other; so the first ones are taken to be the old ones
abbrev pub is_less : List Row → List Place → List Row → List Place → ℕ → Bool
is_less one places other others n =
    let left = left_of one (place_at places n) in
    nat_le (count_left other others left) (count_left one (take n places) left)

-- the places of one screen that are less on the other
abbrev pub less : List Row → List Place → List Row → List Place → List Place
less one places other others =
    map (place_at places) (filter (is_less one places other others) (range_with_len 0 (length places)))

-- the places of a text on one screen that are less on the other
unfoldable pub gone : List ℕ → List Row → List Row → List Place
gone text one other = less one (standing text one) other (standing text other)

-- whether nothing among these places has the same to the left
abbrev pub is_lone : List Row → List Place → List ℕ → Bool
is_lone rows places left = count_left rows places left == 0

-- those that have a left part which none has on two further screens
unfoldable pub passed : List ℕ → List Row → List Row → List Row → List Row → List Place
passed text first last one other =
    filter (λ place. is_lone first (standing text first) (left_of one place) && is_lone last (standing text last) (left_of one place))
    (gone text one other)
