-- Rows that move up by one.
use Rattle.std.specs.Prelude.{◌≢◌, ℕ, ◌+◌, ◌-◌, ◌^◌, ◌<◌, false, List, [], ◌∷◌, ◌++◌, drop, length, min, replicate, slice_index_or, take}
use Rattle.std.specs.List.{range_with_len}
use Rattle.standings.specs.Rows.{Row}
use Rattle.standings.specs.Standing.{place_in}
use Rattle.standings.specs.declared.place.Place.{Place}

-- a row of so many spaces, in columns from 1 on, that doesn't run on (ours)
abbrev pub spaces_row : ℕ → Row
spaces_row columns = record { characters = replicate columns 32; columns = range_with_len 1 columns; runs_on = false }

-- all rows move up by one, and a row of so many spaces comes in below (ours)
abbrev pub moved_up : ℕ → List Row → List Row
moved_up columns rows = drop 1 rows ++ spaces_row columns ∷ []

-- of the rows from one up to and without another, the first goes out, the others move up, and a row of so many spaces comes in below them (ours)
abbrev pub region_up : ℕ → ℕ → ℕ → List Row → List Row
region_up from to columns rows = take from rows ++ moved_up columns (take (to - from) (drop from rows)) ++ drop to rows

-- the last goes out, the others move down, and a row of so many spaces comes in above them (ours)
abbrev pub region_down : ℕ → ℕ → ℕ → List Row → List Row
region_down from to columns rows = take from rows ++ spaces_row columns ∷ (take (to - from - 1) (drop from rows) ++ drop to rows)

-- private: of the rows from one up to and without another, the first goes out, the others move up, and a row comes in below them
abbrev pub shifted_up : ℕ → ℕ → Row → List Row → List Row
shifted_up from to row rows = take from rows ++ (drop 1 (take (to - from) (drop from rows)) ++ row ∷ []) ++ drop to rows

-- private: the last goes out, the others move down, and a row comes in above them
abbrev pub shifted_down : ℕ → ℕ → Row → List Row → List Row
shifted_down from to row rows = take from rows ++ row ∷ (take (to - from - 1) (drop from rows) ++ drop to rows)

-- the first so many rows come behind the others (ours)
abbrev pub turned : ℕ → List Row → List Row
turned count rows = drop count rows ++ take count rows

-- private: a place, in the row above its own
abbrev pub place_up : Place → Place
place_up place = place_in (place.above - 1) place.before

-- private: a place, in the row below its own, as far as rows are numbered
abbrev pub place_down : Place → Place
place_down place = place_in (min (place.above + 1) (2 ^ 64 - 1)) place.before

-- private: a text that isn't empty and doesn't end in a space
pub record EndsInInk (text : List ℕ) : Type 0 where
  pub some : 0 < length text
  pub last : slice_index_or text (length text - 1) 0 ≢ 32
