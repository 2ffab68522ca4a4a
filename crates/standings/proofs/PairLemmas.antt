-- Places of two screens that pair off.
use Rattle.std.proofs.Common.{◌≡◌, ℕ, suc, ◌+◌, ◌-◌, ◌<◌, ◌≤◌, List, [], ◌∷◌, ◌++◌, drop, length, nat_eq, take, cond, refl, ap, ◌∙◌, arith}
use Rattle.std.specs.Cmp.Lexicographic.{pointwise}
use Rattle.std.proofs.lemmas.List.{take-take, take_all}
use Rattle.std.proofs.lemmas.List.Sums.{sum_by-cons}
use Rattle.standings.specs.Less.{PairOff}
use Rattle.standings.specs.Rows.{Row, row_below}
use Rattle.standings.specs.Standing.{count_left, left_of, place_at}
use Rattle.standings.specs.declared.place.Place.{Place}
use Rattle.standings.proofs.CountLemmas.{count_cut, count_on, count_rest, counted}

-- none more do
pub pair_none : (one other : List Row) (places others : List Place) (n m : ℕ)
    → PairOff one (take (n + 0) places) other (take (m + 0) others) (take n places) (take m others)
pair_none one other places others n m = λ left.
    let here : n + 0 ≡ n = omega arith in
    let there : m + 0 ≡ m = omega arith in
    omega (arith, ap (λ k. count_left one (take k places) left) here, ap (λ k. count_left other (take k others) left) there)

-- places in rows of the same characters, behind as many of them, have the same to the left
pub same_place : (one other : List Row) (place mate : Place) → (row_below one place.above).characters ≡ (row_below other mate.above).characters → place.before ≡ mate.before
    → left_of one place ≡ left_of other mate
same_place one other place mate row before = ap (λ b. take b (row_below one place.above).characters) before ∙ ap (take mate.before) row

-- one more on each screen, with the same to the left
pub pair_more : (one other : List Row) (places others : List Place) (n m k : ℕ) (alone alones : List Place) → n + k < length places → m + k < length others
    → left_of one (place_at places (n + k)) ≡ left_of other (place_at others (m + k))
    → PairOff one (take (n + k) places) other (take (m + k) others) alone alones
    → PairOff one (take (n + (k + 1)) places) other (take (m + (k + 1)) others) alone alones
pair_more one other places others n m k alone alones lt lt' same pairs = λ left.
    let here = left_of one (place_at places (n + k)) in
    let there = left_of other (place_at others (m + k)) in
    let both : cond {A = ℕ} (pointwise nat_eq here left) 1 0 ≡ cond (pointwise nat_eq there left) 1 0 =
    ap {B = ℕ} (λ l. cond (pointwise nat_eq l left) 1 0) same in
    let next : n + (k + 1) ≡ n + k + 1 = omega arith in
    let next' : m + (k + 1) ≡ m + k + 1 = omega arith in
    omega (
      arith,
      ap (λ i. count_left one (take i places) left) next,
      ap (λ i. count_left other (take i others) left) next',
      counted one places (n + k) left lt,
      counted other others (m + k) left lt',
      both,
      pairs left,
    )

-- the next ones do, as they do by themselves
pub pair_behind : (one other : List Row) (places others : List Place) (n m k to : ℕ) → n + k ≤ length places → m + k ≤ to
    → PairOff one (take k (drop n places)) other (take k (take (to - m) (drop m others))) [] []
    → PairOff one (take (n + k) places) other (take (m + k) others) (take n places) (take m others)
pair_behind one other places others n m k to low within pairs = λ left.
    let here : n + k - n ≡ k = omega arith in
    let there : m + k - m ≡ k = omega arith in
    omega (
      arith,
      count_cut one places n (n + k) left (omega arith),
      count_cut other others m (m + k) left (omega arith),
      ap (λ i. count_left one (take i (drop n places)) left) here,
      ap (λ i. count_left other (take i (drop m others)) left) there,
      ap (λ l. count_left other l left) (take-take k (to - m) (drop m others) (omega (arith, within))),
      pairs left,
    )

-- a row of the other screen stands alone
pub pair_alone : (one other : List Row) (places others : List Place) (from to : ℕ) (alone alones : List Place) → from ≤ to
    → PairOff one places other (take from others) alone alones
    → PairOff one places other (take to others) alone (alones ++ take (to - from) (drop from others))
pair_alone one other places others from to alone alones le pairs = λ left.
    omega (arith, count_cut other others from to left le, count_on other alones (take (to - from) (drop from others)) left, pairs left)

-- rows of the one stand alone, and then places pair off
pub pair_next : (one other : List Row) (places others : List Place) (from at to there next : ℕ) (alone alones : List Place) → from ≤ at
    → PairOff one (take to places) other (take next others) (take at places) (take there others)
    → PairOff one (take from places) other (take there others) alone alones
    → PairOff one (take to places) other (take next others) (alone ++ take (at - from) (drop from places)) alones
pair_next one other places others from at to there next alone alones le more pairs = λ left.
    omega (arith, count_cut one places from at left le, count_on one alone (take (at - from) (drop from places)) left, more left, pairs left)

-- and the last ones
pub pair_last : (one other : List Row) (places others : List Place) (from there : ℕ) (alone alones : List Place) → length others ≤ there
    → PairOff one (take from places) other (take there others) alone alones
    → PairOff one places other others (alone ++ drop from places) alones
pair_last one other places others from there alone alones all pairs = λ left.
    omega (
      arith,
      count_rest one places from left,
      count_on one alone (drop from places) left,
      ap (λ l. count_left other l left) (take_all there others all),
      pairs left,
    )

-- some pair off but for some of these
pub pair_within : (one other : List Row) (places others some more alone alones : List Place) → PairOff one places other others some more
    → PairOff one some other more alone alones → PairOff one places other others alone alones
pair_within one other places others some more alone alones pairs within = λ left. omega (arith, pairs left, within left)

-- all but all
pub pair_all : (one other : List Row) (places others : List Place) (to there : ℕ) → to ≡ length places → there ≡ length others
    → PairOff one places other others (take (to - 0) (drop 0 places)) (take (there - 0) (drop 0 others))
pair_all one other places others to there all all' = λ left.
    let same : take (to - 0) (drop 0 places) ≡ places = take_all (to - 0) places (omega (arith, all)) in
    let same' : take (there - 0) (drop 0 others) ≡ others = take_all (there - 0) others (omega (arith, all')) in
    omega (arith, ap (λ l. count_left one l left) same, ap (λ l. count_left other l left) same')

-- those in rows that are the same
count_same_rows : (one other : List Row) (places : List Place) (left : List ℕ)
    → ((j : ℕ) → j < length places → row_below other (place_at places j).above ≡ row_below one (place_at places j).above)
    → count_left other places left ≡ count_left one places left
count_same_rows one other [] left same = refl
count_same_rows one other (place ∷ places) left same =
    let here : left_of other place ≡ left_of one place = ap (λ (r : Row). take place.before r.characters) (same 0 (omega arith)) in
    let rest = count_same_rows one other places left (λ j lt. same (suc j) (omega (arith, lt))) in
    omega (
      arith,
      sum_by-cons (λ (p : Place). cond (pointwise nat_eq (left_of one p) left) 1 0) place places,
      sum_by-cons (λ (p : Place). cond (pointwise nat_eq (left_of other p) left) 1 0) place places,
      ap {B = ℕ} (λ l. cond (pointwise nat_eq l left) 1 0) here,
      rest,
    )

-- all but those between two parts that are the same on both, in rows that are
pub pair_parts : (one other : List Row) (places others front was came rest : List Place) → places ≡ front ++ (was ++ rest) → others ≡ front ++ (came ++ rest)
    → ((j : ℕ) → j < length front → row_below other (place_at front j).above ≡ row_below one (place_at front j).above)
    → ((j : ℕ) → j < length rest → row_below other (place_at rest j).above ≡ row_below one (place_at rest j).above)
    → PairOff one places other others was came
pair_parts one other places others front was came rest is is' same same' = λ left.
    omega (
      arith,
      ap (λ l. count_left one l left) is,
      ap (λ l. count_left other l left) is',
      count_on one front (was ++ rest) left,
      count_on one was rest left,
      count_on other front (came ++ rest) left,
      count_on other came rest left,
      count_same_rows one other front left same,
      count_same_rows one other rest left same',
    )

-- ---- kept in reading order

-- a place is kept by one on the other screen
pub kept_more : (one other : List Row) (places others : List Place) (n m : ℕ) (left : List ℕ) → n < length places → m < length others
    → left_of one (place_at places n) ≡ left_of other (place_at others m)
    → count_left one (take n places) left ≤ count_left other (take m others) left
    → count_left one (take (n + 1) places) left ≤ count_left other (take (m + 1) others) left
kept_more one other places others n m left lt lt' same le =
    let both : cond {A = ℕ} (pointwise nat_eq (left_of one (place_at places n)) left) 1 0 ≡ cond (pointwise nat_eq (left_of other (place_at others m)) left) 1 0 =
    ap {B = ℕ} (λ l. cond (pointwise nat_eq l left) 1 0) same in
    omega (arith, counted one places n left lt, counted other others m left lt', both, le)

-- or the other has one more
pub kept_past : (one other : List Row) (places others : List Place) (n m : ℕ) (left : List ℕ) → m < length others
    → count_left one (take n places) left ≤ count_left other (take m others) left
    → count_left one (take n places) left ≤ count_left other (take (m + 1) others) left
kept_past one other places others n m left lt le = omega (arith, counted other others m left lt, le)
