-- Private: what of a text is less on another screen, told by the rows that stand alone.
use Rattle.std.specs.Prelude.{◌≡◌, ◌≢◌, ℕ, ◌+◌, ◌-◌, ◌<◌, ◌≤◌, ◌&&◌, Bool, false, true, List, Option, Some, None, drop, length, nat_eq, nat_le, slice_index_or, take, IfSome}
use Rattle.std.specs.Borrow.{Bor}
use Rattle.std.specs.List.{starts_with}
use Rattle.standings.specs.Rows.{Row}
use Rattle.standings.specs.Standing.{count_left, is_less, is_lone, left_of, place_at}
use Rattle.standings.specs.declared.less.Ends.{Ends}
use Rattle.standings.specs.declared.less.Less.{Less}
use Rattle.standings.specs.declared.less.Passed.{Passed}
use Rattle.standings.specs.declared.place.Place.{Place}

-- all places of two screens pair off but for these: of each left part one screen has as many more than the other as of these
abbrev pub PairOff : List Row → List Place → List Row → List Place → List Place → List Place → Type 0
PairOff one places other others alone alones =
    (left : List ℕ) → count_left one places left + count_left other alones left ≡ count_left other others left + count_left one alone left

-- two rows begin with so many characters alike, and with no more
pub record Agree (one other : List ℕ) (count : ℕ) : Type 0 where
  pub within : count ≤ length one
  pub there : count ≤ length other
  pub same : take count one ≡ take count other
  pub ends : count < length one → count < length other → slice_index_or one count 0 ≢ slice_index_or other count 0

-- how many are in a list for a left part, by its length
abbrev pub for_left : List ℕ → List ℕ → ℕ
for_left counts left = slice_index_or counts (length left) 0

-- for each left part with which a row begins: of it one screen has so many places more than another
abbrev pub IsSurplus : List ℕ → List Row → List Place → List Row → List Place → List ℕ → Type 0
IsSurplus row one alone other alones surplus =
    (left : List ℕ) → starts_with nat_eq row left ≡ true
    → for_left surplus left ≡ count_left one alone left - count_left other alones left

-- whether place n is among the last so many with its left part, and a row begins with that
abbrev pub is_last : List ℕ → List Row → List Place → List ℕ → ℕ → Bool
is_last row rows places surplus n =
    let left = left_of rows (place_at places n) in
    starts_with nat_eq row left && nat_le (count_left rows (drop n places) left) (for_left surplus left)

-- of so many places each is told of, or none is
abbrev pub HasAll : Less → ℕ → Type 0
HasAll less count = IfSome less.told (λ told. length told.items ≡ count)

-- it is told of each place whether it is less on the other screen, or of none
abbrev pub IsTold : Less → List Row → List Place → List Row → List Place → Type 0
IsTold less one places other others =
    IfSome less.told (λ told. (length told.items ≡ length places)
    × ((n : ℕ) → n < length places → slice_index_or told.items n false ≡ is_less one places other others n))

-- whether nothing at the ends of a chunk has this to the left, where they are given
abbrev pub is_away : Option (Bor Ends) → List ℕ → Bool
is_away None left = true
is_away (Some ends) left =
    is_lone ends.now.first.now.rows.items ends.now.first.now.places.items left
    && is_lone ends.now.last.now.rows.items ends.now.last.now.places.items left

-- whether place n is less on the other screen, and has nothing with the same to the left at the ends of a chunk, where they are given
abbrev pub is_wanted : Option (Bor Ends) → List Row → List Place → List Row → List Place → ℕ → Bool
is_wanted ends one places other others n = is_away ends (left_of one (place_at places n)) && is_less one places other others n

-- whether nothing has the same to the left as place n on a first screen and a last, and it is less on another
abbrev pub has_passed : List Row → List Place → List Row → List Place → List Row → List Place → List Row → List Place → ℕ → Bool
has_passed first firsts last lasts one places other others n =
    let left = left_of one (place_at places n) in
    (is_lone first firsts left && is_lone last lasts left) && is_less one places other others n

-- of so many places each is told of, or none is
abbrev pub HasEach : Passed → ℕ → Type 0
HasEach passed count = IfSome passed.told (λ told. length told.items ≡ count)

-- it is told of each place whether it passed, or of none
abbrev pub ArePassed : Passed → List Row → List Place → List Row → List Place → List Row → List Place → List Row → List Place → Type 0
ArePassed passed first firsts last lasts one places other others =
    IfSome passed.told (λ told. (length told.items ≡ length places)
    × ((n : ℕ) → n < length places → slice_index_or told.items n false ≡ has_passed first firsts last lasts one places other others n))

-- whether place n is less on the other screen, and nothing has the same to the left on a third one
abbrev pub may_pass : List Row → List Place → List Row → List Place → List Row → List Place → ℕ → Bool
may_pass first firsts one places other others n =
    is_less one places other others n && is_lone first firsts (left_of one (place_at places n))

-- whether some place is so
pub record SomePass (told : Bool) (first : List Row) (firsts : List Place) (one : List Row) (places : List Place) (other : List Row) (others : List Place) : Type 0 where
  pub none : told ≡ false → (n : ℕ) → n < length places → may_pass first firsts one places other others n ≡ false
  pub some : told ≡ true → (n : ℕ) × (n < length places) × (may_pass first firsts one places other others n ≡ true)
