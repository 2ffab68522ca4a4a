-- Where a text stands on rows of which some move up or down by one.
use Rattle.std.proofs.Common.{◌≡◌, ◌⊎◌, ℕ, suc, ◌+◌, ◌-◌, ◌^◌, ◌<◌, ◌≤◌, false, List, [], ◌∷◌, ◌++◌, append_assoc, append-nil, cond, drop, length, map, min, take, refl, ap, ap₂, subst, sym, ◌∙◌, arith, inl, inr}
use Rattle.std.proofs.lemmas.Bool.{cases_lt}
use Rattle.std.proofs.lemmas.List.{drop-drop, drop-take, drop_at, get_or-append-add, get_or-drop, get_or-take, length-append, length-drop, length-map, length-take, take-append-drop, take_at}
use Rattle.standings.specs.Moved.{EndsInInk, moved_up, place_down, place_up, region_down, region_up, spaces_row}
use Rattle.standings.specs.Near.{IsClear, IsOrdered}
use Rattle.standings.specs.Rows.{Row, empty_row, row_below}
use Rattle.standings.specs.Standing.{begins, line_text, place_at, places_from, places_in, standing}
use Rattle.standings.specs.declared.place.Place.{Place}
use Rattle.standings.proofs.FrontLemmas.{begins_before}
use Rattle.standings.proofs.MovedLemmas.{numbered_from}
use Rattle.standings.proofs.PlaceLemmas.{IsWithin, count_late, part_all, within_both, within_more}
use Rattle.standings.proofs.RowLemmas.{rows_at}
use Rattle.standings.proofs.SpaceLemmas.{from_spaces}
use Rattle.standings.proofs.SpanLemmas.{part_alike}

-- ---- rows and others below them

-- no text goes on from the last of these rows: it is too short, or the row doesn't run on
abbrev EndsIn : List ℕ → List Row → Type 0
EndsIn text rows = (length text ≤ 1) ⊎ (0 < length rows → (row_below rows (length rows - 1)).runs_on ≡ false)

ends_behind : (text : List ℕ) (row : Row) (rows : List Row) → EndsIn text (row ∷ rows) → EndsIn text rows
ends_behind text row rows (inl short) = inl short
ends_behind text row [] (inr ends) = inr (λ some. absurd (omega (arith, some)))
ends_behind text row (next ∷ rows) (inr ends) =
    let last : suc (suc (length rows)) - 1 ≡ suc (suc (length rows) - 1) = omega arith in
    inr (λ some. ap (λ k. (row_below (row ∷ next ∷ rows) k).runs_on) (sym last) ∙ ends (omega arith))

line_ends : (rows more : List Row) → 0 < length rows → (0 < length rows → (row_below rows (length rows - 1)).runs_on ≡ false) → line_text (rows ++ more) ≡ line_text rows
unfolding line_text
line_ends [] more some ends = absurd (omega (arith, some))
line_ends (row ∷ []) more some ends = rw (ends some) refl
line_ends (row ∷ next ∷ rows) more some ends =
    let last : suc (suc (length rows)) - 1 ≡ suc (suc (length rows) - 1) = omega arith in
    ap (λ l. row.characters ++ cond row.runs_on l [])
    (line_ends (next ∷ rows) more (omega arith) (λ _. ap (λ k. (row_below (row ∷ next ∷ rows) k).runs_on) (sym last) ∙ ends some))

begins_same : (text : List ℕ) (row : Row) (rows more : List Row) → EndsIn text (row ∷ rows) → (i : ℕ) → i < length row.characters
    → begins text (line_text (row ∷ (rows ++ more))) i ≡ begins text (line_text (row ∷ rows)) i
unfolding line_text
begins_same text row rows more (inl short) i lt =
    begins_before row.characters (cond row.runs_on (line_text (rows ++ more)) []) (cond row.runs_on (line_text rows) []) text i (omega (arith, short, lt))
begins_same text row rows more (inr ends) i lt = ap (λ l. begins text l i) (line_ends (row ∷ rows) more (omega arith) ends)

-- the places of both
from_both : (text : List ℕ) (rows more : List Row) (above below : ℕ) → EndsIn text rows → above + length rows ≡ below
    → places_from text above (rows ++ more) ≡ places_from text above rows ++ places_from text below more
unfolding places_from
from_both text [] more above below ends is =
    let same : above ≡ below = omega (arith, is) in
    ap (λ k. places_from text k more) same
from_both text (row ∷ rows) more above below ends is =
    let here = places_in text above (line_text (row ∷ rows)) (length row.characters) in
    ap₂ (λ a b. a ++ b)
    (part_alike text above (line_text (row ∷ rows)) (line_text (row ∷ (rows ++ more))) (length row.characters) 0 (λ i _ lt. begins_same text row rows more ends i (omega (arith, lt))))
    (from_both text rows more (above + 1) below (ends_behind text row rows ends) (omega (arith, is)))
    ∙ sym (append_assoc here (places_from text (above + 1) rows) (places_from text below more))

-- in which rows they are
in_row : (text : List ℕ) (above : ℕ) (line : List ℕ) (count low high : ℕ) → low ≤ above → above < high → IsWithin (places_in text above line count) low high
in_row text above line count low high lower higher = record {
  from = part_all (λ place. low ≤ place.above) text above line count 0 (λ i _ _. lower);
  to = part_all (λ place. place.above < high) text above line count 0 (λ i _ _. higher);
}

from_within : (text : List ℕ) (rows : List Row) (above below : ℕ) → above + length rows ≡ below → IsWithin (places_from text above rows) above below
unfolding places_from
from_within text [] above below is = record { from = λ j lt. absurd (omega (arith, lt)); to = λ j lt. absurd (omega (arith, lt)) }
from_within text (row ∷ rows) above below is =
    let line = line_text (row ∷ rows) in
    let count = length row.characters in
    within_both (places_in text above line count) (places_from text (above + 1) rows) above below
    (in_row text above line count above below (omega arith) (omega (arith, is)))
    (within_more (places_from text (above + 1) rows) (above + 1) below above below (omega arith) (omega arith) (from_within text rows (above + 1) below (omega (arith, is))))

-- ---- rows between others

-- those from one on up to another, and the others from there on
rest_in_two : (a b : ℕ) (rows : List Row) → a ≤ b → drop a rows ≡ take (b - a) (drop a rows) ++ drop b rows
rest_in_two a b rows order =
    let there : a + (b - a) ≡ b = omega arith in
    sym (take-append-drop (b - a) (drop a rows)) ∙ ap (λ l. take (b - a) (drop a rows) ++ l) (drop-drop (b - a) a rows ∙ ap (λ n. drop n rows) there)

ends_part : (text : List ℕ) (rows : List Row) (a b : ℕ) → a ≤ b → b ≤ length rows → IsClear rows b 0 text → EndsIn text (take (b - a) (drop a rows))
ends_part text rows a b order within (inl short) = inl short
ends_part text rows a b order within (inr ends) =
    let part = take (b - a) (drop a rows) in
    let long : length part ≡ b - a = omega (arith, length-take (b - a) (drop a rows), length-drop a rows) in
    let last : length part - 1 ≡ b - a - 1 = omega (arith, long) in
    inr (λ some.
    let there : a + (b - a - 1) ≡ b - 1 = omega (arith, some, long) in
    ap (λ k. (row_below part k).runs_on) last
    ∙ ap (λ (row : Row). row.runs_on) (get_or-take (b - a) (drop a rows) (b - a - 1) empty_row (omega (arith, some, long)) ∙ get_or-drop a rows (b - a - 1) empty_row ∙ ap (row_below rows) there)
    ∙ ends (omega (arith, some, long)))

ends_front : (text : List ℕ) (rows : List Row) (from : ℕ) → from ≤ length rows → IsClear rows from 0 text → EndsIn text (take from rows)
ends_front text rows from within clear =
    let all : from - 0 ≡ from = omega arith in
    subst (λ n. EndsIn text (take n rows)) all (ends_part text rows 0 from (omega arith) within clear)

ends_spaces : (text : List ℕ) (rows : List Row) (columns : ℕ) → EndsIn text (rows ++ spaces_row columns ∷ [])
ends_spaces text rows columns =
    let last : length (rows ++ spaces_row columns ∷ []) - 1 ≡ length rows + 0 = omega (arith, length-append rows (spaces_row columns ∷ [])) in
    inr (λ _. ap (λ k. (row_below (rows ++ spaces_row columns ∷ []) k).runs_on) last
    ∙ ap (λ (row : Row). row.runs_on) (get_or-append-add rows (spaces_row columns ∷ []) 0 empty_row))

-- ---- where they move

-- the places of rows above others, of these, in two parts, and of the rows below
pub record AreInRows (one two three four : List Place) (a b c all : ℕ) : Type 0 where
  pub first : IsWithin one 0 a
  pub second : IsWithin two a b
  pub third : IsWithin three b c
  pub fourth : IsWithin four c all

module _ (text : List ℕ) (rows : List Row) (from to columns : ℕ) (ink : EndsInInk text) (some : from < to) (within : to ≤ length rows) (clear : IsClear rows from 0 text) where
  abbrev front_places : List Place
  front_places = places_from text 0 (take from rows)

  abbrev rest_places : List Place
  rest_places = places_from text to (drop to rows)

  front_within : IsWithin front_places 0 from
  front_within = from_within text (take from rows) 0 from (omega (arith, length-take from rows))

  rest_within : IsWithin rest_places to (length rows)
  rest_within = from_within text (drop to rows) to (length rows) (omega (arith, length-drop to rows))

  behind_front : (more : List Row) → standing text (take from rows ++ more) ≡ front_places ++ places_from text from more
  behind_front more = from_both text (take from rows) more 0 from (ends_front text rows from (omega arith) clear) (omega (arith, length-take from rows))

  -- up: the first one goes out
  abbrev first_row : Row
  first_row = row_below rows from

  abbrev later_rows : List Row
  later_rows = take (to - (from + 1)) (drop (from + 1) rows)

  abbrev gone_above : List Place
  gone_above = places_in text from (line_text (first_row ∷ (later_rows ++ drop to rows))) (length first_row.characters)

  abbrev stay_later : List Place
  stay_later = places_from text (from + 1) later_rows

  later_long : from + 1 + length later_rows ≡ to
  later_long = omega (arith, length-take (to - (from + 1)) (drop (from + 1) rows), length-drop (from + 1) rows)

  pub up_rows : AreInRows front_places gone_above stay_later rest_places from (from + 1) to (length rows)
  up_rows = record {
    first = front_within;
    second = in_row text from (line_text (first_row ∷ (later_rows ++ drop to rows))) (length first_row.characters) from (from + 1) (omega arith) (omega arith);
    third = from_within text later_rows (from + 1) to later_long;
    fourth = rest_within;
  }

  pub up_before : IsClear rows to 0 text → standing text rows ≡ front_places ++ (gone_above ++ (stay_later ++ rest_places))
  unfolding places_from
  up_before ends =
      let behind : drop from rows ≡ first_row ∷ (later_rows ++ drop to rows) = rows_at rows from (omega arith) ∙ ap (λ l. first_row ∷ l) (rest_in_two (from + 1) to rows (omega arith)) in
      ap (standing text) (sym (take-append-drop from rows)) ∙ behind_front (drop from rows)
      ∙ ap (λ l. front_places ++ places_from text from l) behind
      ∙ ap (λ l. front_places ++ (gone_above ++ l)) (from_both text later_rows (drop to rows) (from + 1) to (ends_part text rows (from + 1) to (omega arith) within ends) later_long)

  pub up_after : standing text (region_up from to columns rows) ≡ front_places ++ (map place_up stay_later ++ rest_places)
  up_after =
      let all : to - from ≡ 1 + (to - (from + 1)) = omega arith in
      let moved : drop 1 (take (to - from) (drop from rows)) ≡ later_rows =
      ap (λ n. drop 1 (take n (drop from rows))) all ∙ drop-take 1 (to - (from + 1)) (drop from rows) ∙ ap (take (to - (from + 1))) (drop-drop 1 from rows) in
      let new = later_rows ++ spaces_row columns ∷ [] in
      ap (standing text) (append_assoc (take from rows) (moved_up columns (take (to - from) (drop from rows))) (drop to rows))
      ∙ ap (λ l. standing text (take from rows ++ ((l ++ spaces_row columns ∷ []) ++ drop to rows))) moved
      ∙ behind_front (new ++ drop to rows)
      ∙ ap (λ l. front_places ++ l) (from_both text new (drop to rows) from to (ends_spaces text later_rows columns) (omega (arith, length-append later_rows (spaces_row columns ∷ []), later_long)))
      ∙ ap (λ l. front_places ++ (l ++ rest_places)) (from_spaces text columns ink later_rows from ∙ sym (numbered_from (λ k. k - 1) text later_rows (from + 1) from (λ k lt. omega arith)))

  -- down: the last one does
  abbrev last_row : Row
  last_row = row_below rows (to - 1)

  abbrev early_rows : List Row
  early_rows = take (to - 1 - from) (drop from rows)

  abbrev gone_below : List Place
  gone_below = places_in text (to - 1) (line_text (last_row ∷ drop to rows)) (length last_row.characters)

  abbrev stay_early : List Place
  stay_early = places_from text from early_rows

  early_long : from + length early_rows ≡ to - 1
  early_long = omega (arith, length-take (to - 1 - from) (drop from rows), length-drop from rows)

  pub down_rows : AreInRows front_places stay_early gone_below rest_places from (to - 1) to (length rows)
  down_rows = record {
    first = front_within;
    second = from_within text early_rows from (to - 1) early_long;
    third = in_row text (to - 1) (line_text (last_row ∷ drop to rows)) (length last_row.characters) (to - 1) to (omega arith) (omega arith);
    fourth = rest_within;
  }

  ends_early : IsClear rows (to - 1) 0 text → EndsIn text early_rows
  ends_early ends = ends_part text rows from (to - 1) (omega arith) (omega arith) ends

  pub down_before : IsClear rows (to - 1) 0 text → standing text rows ≡ front_places ++ (stay_early ++ (gone_below ++ rest_places))
  unfolding places_from
  down_before ends =
      let next : to - 1 + 1 ≡ to = omega arith in
      let last : drop (to - 1) rows ≡ last_row ∷ drop to rows = rows_at rows (to - 1) (omega arith) ∙ ap (λ n. last_row ∷ drop n rows) next in
      ap (standing text) (sym (take-append-drop from rows)) ∙ behind_front (drop from rows)
      ∙ ap (λ l. front_places ++ places_from text from l) (rest_in_two from (to - 1) rows (omega arith))
      ∙ ap (λ l. front_places ++ l) (from_both text early_rows (drop (to - 1) rows) from (to - 1) (ends_early ends) early_long)
      ∙ ap (λ l. front_places ++ (stay_early ++ places_from text (to - 1) l)) last
      ∙ ap (λ n. front_places ++ (stay_early ++ (gone_below ++ places_from text n (drop to rows)))) next

  pub down_after : length rows ≤ 2 ^ 64 - 1 → IsClear rows (to - 1) 0 text → standing text (region_down from to columns rows) ≡ front_places ++ (map place_down stay_early ++ rest_places)
  unfolding places_from line_text
  down_after few ends =
      let count : to - from - 1 ≡ to - 1 - from = omega arith in
      let none : places_in text from (line_text (spaces_row columns ∷ [])) (length (spaces_row columns).characters) ≡ [] =
      sym (append-nil (places_in text from (line_text (spaces_row columns ∷ [])) (length (spaces_row columns).characters))) ∙ from_spaces text columns ink [] from in
      ap (λ n. standing text (take from rows ++ spaces_row columns ∷ (take n (drop from rows) ++ drop to rows))) count
      ∙ behind_front (spaces_row columns ∷ (early_rows ++ drop to rows))
      ∙ ap (λ l. front_places ++ (l ++ places_from text (from + 1) (early_rows ++ drop to rows))) none
      ∙ ap (λ l. front_places ++ l) (from_both text early_rows (drop to rows) (from + 1) to (ends_early ends) (omega (arith, early_long)))
      ∙ ap (λ l. front_places ++ (l ++ rest_places)) (sym (numbered_from (λ k. min (k + 1) (2 ^ 64 - 1)) text early_rows from (from + 1) (λ k lt. omega (arith, lt, few, early_long, within))))

-- ---- the places, by how many stand in rows above

-- so many of the first ones stand in rows above one, and the others of these don't
pub record AreCounted (places : List Place) (above most count : ℕ) : Type 0 where
  pub within : count ≤ most
  pub early : 0 < count → (place_at places (count - 1)).above < above
  pub late : (k : ℕ) → count ≤ k → k < most → above ≤ (place_at places k).above

counted_is : (a b places : List Place) (above most count low high : ℕ) → places ≡ a ++ b → IsWithin a low above → IsWithin b above high → most ≤ length places
    → ((k : ℕ) → most ≤ k → k < length places → above ≤ (place_at places k).above) → AreCounted places above most count → count ≡ length a
counted_is a b places above most count low high is first second within rest counted =
    let late = λ (k : ℕ) (from : count ≤ k) (lt : k < length places). elim (cases_lt k most) as (λ _. above ≤ (place_at places k).above) [ inl near ↦ counted.late k from near | inr far ↦ rest k far lt ] in
    count_late a b above count low high first second
    (subst (λ l. count ≤ length l) is (omega (arith, within, counted.within)))
    (subst (λ l. 0 < count → (place_at l (count - 1)).above < above) is counted.early)
    (subst (λ l. (k : ℕ) → count ≤ k → k < length l → above ≤ (place_at l k).above) is late)

-- three parts end at these places
record AreCut (one two three : List Place) (first second third : ℕ) : Type 0 where
  near : first ≡ length one
  between : second ≡ length (one ++ two)
  far : third ≡ length (one ++ (two ++ three))

cut_in_rows : (one two three four places : List Place) (a b c all first second third : ℕ) → AreInRows one two three four a b c all → places ≡ one ++ (two ++ (three ++ four))
    → a ≤ b → b ≤ c → c ≤ all → AreCounted places c (length places) third → AreCounted places b third second → AreCounted places a second first → AreCut one two three first second third
cut_in_rows one two three four places a b c all first second third are is low middle high last between front =
    let far = within_more four c all b all middle (omega arith) are.fourth in
    let near = within_more one 0 a 0 b (omega arith) low are.first in
    let past_last = λ (k : ℕ) (from : third ≤ k) (lt : k < length places). last.late k from lt in
    let past_between = λ (k : ℕ) (from : second ≤ k) (lt : k < length places). elim (cases_lt k third) as (λ _. b ≤ (place_at places k).above) [ inl inside ↦ between.late k from inside | inr behind ↦ omega (arith, past_last k behind lt, middle) ] in
    record {
      near = counted_is one (two ++ (three ++ four)) places a second first 0 all is are.first
          (within_both two (three ++ four) a all (within_more two a b a all (omega arith) (omega arith) are.second)
          (within_both three four a all (within_more three b c a all low high are.third) (within_more four c all a all (omega arith) (omega arith) are.fourth)))
          (omega (arith, between.within, last.within)) (λ k from lt. omega (arith, past_between k from lt, low)) front;
      between = counted_is (one ++ two) (three ++ four) places b third second 0 all (is ∙ sym (append_assoc one two (three ++ four)))
          (within_both one two 0 b near (within_more two a b 0 b (omega arith) (omega arith) are.second))
          (within_both three four b all (within_more three b c b all (omega arith) high are.third) far)
          last.within (λ k from lt. omega (arith, past_last k from lt, middle)) between;
      far = counted_is (one ++ (two ++ three)) four places c (length places) third 0 all
          (is ∙ ap (λ l. one ++ l) (sym (append_assoc two three four)) ∙ sym (append_assoc one (two ++ three) four))
          (within_both one (two ++ three) 0 c (within_more one 0 a 0 c (omega arith) (omega arith) are.first)
          (within_both two three 0 c (within_more two a b 0 c (omega arith) middle are.second) (within_more three b c 0 c (omega arith) (omega arith) are.third)))
          are.fourth (omega arith) (λ k from lt. absurd (omega (arith, from, lt))) last;
    }

-- the second part goes out, and the third one moves
second_goes : (one two three four places lifted : List Place) (f : Place → Place) (first second third : ℕ) → places ≡ one ++ (two ++ (three ++ four)) → AreCut one two three first second third
    → lifted ≡ take second places ++ (map f (take (third - second) (drop second places)) ++ drop third places) → take first lifted ++ drop second lifted ≡ one ++ (map f three ++ four)
second_goes one two three four places lifted f first second third is cut lifts =
    let other : places ≡ (one ++ two) ++ (three ++ four) = is ∙ sym (append_assoc one two (three ++ four)) in
    let whole : places ≡ (one ++ (two ++ three)) ++ four = is ∙ ap (λ l. one ++ l) (sym (append_assoc two three four)) ∙ sym (append_assoc one (two ++ three) four) in
    let fore : take second places ≡ one ++ two = ap (take second) other ∙ take_at (one ++ two) (three ++ four) second (sym cut.between) in
    let past : drop second places ≡ three ++ four = ap (drop second) other ∙ drop_at (one ++ two) (three ++ four) second (sym cut.between) in
    let long : length three ≡ third - second = omega (arith, cut.between, cut.far, length-append one two, length-append one (two ++ three), length-append two three) in
    let between : take (third - second) (drop second places) ≡ three = ap (take (third - second)) past ∙ take_at three four (third - second) long in
    let rest : drop third places ≡ four = ap (drop third) whole ∙ drop_at (one ++ (two ++ three)) four third (sym cut.far) in
    let there : lifted ≡ (one ++ two) ++ (map f three ++ four) = lifts ∙ ap₂ (λ a b. a ++ b) fore (ap₂ (λ a b. map f a ++ b) between rest) in
    ap₂ (λ a b. a ++ b)
    (ap (take first) (there ∙ append_assoc one two (map f three ++ four)) ∙ take_at one (two ++ (map f three ++ four)) first (sym cut.near))
    (ap (drop second) there ∙ drop_at (one ++ two) (map f three ++ four) second (sym cut.between))

-- the third part goes out, and the second one moves
third_goes : (one two three four places lowered : List Place) (f : Place → Place) (first second third : ℕ) → places ≡ one ++ (two ++ (three ++ four)) → AreCut one two three first second third
    → lowered ≡ take first places ++ (map f (take (second - first) (drop first places)) ++ drop second places) → take second lowered ++ drop third lowered ≡ one ++ (map f two ++ four)
third_goes one two three four places lowered f first second third is cut lowers =
    let other : places ≡ (one ++ two) ++ (three ++ four) = is ∙ sym (append_assoc one two (three ++ four)) in
    let fore : take first places ≡ one = ap (take first) is ∙ take_at one (two ++ (three ++ four)) first (sym cut.near) in
    let past : drop first places ≡ two ++ (three ++ four) = ap (drop first) is ∙ drop_at one (two ++ (three ++ four)) first (sym cut.near) in
    let long : length two ≡ second - first = omega (arith, cut.near, cut.between, length-append one two) in
    let between : take (second - first) (drop first places) ≡ two = ap (take (second - first)) past ∙ take_at two (three ++ four) (second - first) long in
    let rest : drop second places ≡ three ++ four = ap (drop second) other ∙ drop_at (one ++ two) (three ++ four) second (sym cut.between) in
    let there : lowered ≡ (one ++ map f two) ++ (three ++ four) =
    lowers ∙ ap₂ (λ a b. a ++ b) fore (ap₂ (λ a b. map f a ++ b) between rest) ∙ sym (append_assoc one (map f two) (three ++ four)) in
    let whole : lowered ≡ ((one ++ map f two) ++ three) ++ four = there ∙ sym (append_assoc (one ++ map f two) three four) in
    let same : second ≡ length (one ++ map f two) = omega (arith, cut.between, length-append one two, length-append one (map f two), length-map two f) in
    let last : third ≡ length ((one ++ map f two) ++ three) =
    omega (arith, cut.far, same, cut.between, length-append one two, length-append one (two ++ three), length-append two three, length-append (one ++ map f two) three) in
    ap₂ (λ a b. a ++ b)
    (ap (take second) there ∙ take_at (one ++ map f two) (three ++ four) second (sym same))
    (ap (drop third) whole ∙ drop_at ((one ++ map f two) ++ three) four third (sym last))
    ∙ append_assoc one (map f two) four

-- what a list has where a part of it was written
pub part_written : (f : Place → Place) (places view new : List Place) (first second len : ℕ) → view ≡ places → len ≡ length places → first ≤ second → second ≤ length places
    → new ≡ map f (take (second - first) (drop first view))
    → take len ((take first view ++ (new ++ drop (second - first) (drop first view))) ++ drop (length (take first view ++ (new ++ drop (second - first) (drop first view)))) places)
    ≡ take first places ++ (map f (take (second - first) (drop first places)) ++ drop second places)
part_written f places view new first second len same count order within writes =
    let part = take (second - first) (drop first places) in
    let now = take first view ++ (new ++ drop (second - first) (drop first view)) in
    let there : first + (second - first) ≡ second = omega arith in
    let is : now ≡ take first places ++ (map f part ++ drop second places) =
    ap₂ (λ l n. take first l ++ (n ++ drop (second - first) (drop first l))) same (writes ∙ ap (λ l. map f (take (second - first) (drop first l))) same)
    ∙ ap (λ l. take first places ++ (map f part ++ l)) (drop-drop (second - first) first places ∙ ap (λ n. drop n places) there) in
    let long : length now ≡ len =
    omega (
      arith,
      ap length is,
      length-append (take first places) (map f part ++ drop second places),
      length-append (map f part) (drop second places),
      length-map part f,
      length-take first places,
      length-take (second - first) (drop first places),
      length-drop first places,
      length-drop second places,
    ) in
    take_at now (drop (length now) places) len long ∙ is

-- as they are counted through a view
pub counted : (places view : List Place) (above most all count : ℕ) → view ≡ places → IsOrdered places → all ≡ most → count ≤ most → (0 < count → (place_at view (count - 1)).above < above)
    → (IsOrdered view → (k : ℕ) → count ≤ k → k < most → above ≤ (place_at view k).above) → AreCounted places above all count
counted places view above most all count same ordered is within early late = record {
  within = omega (arith, within, is);
  early = subst (λ l. 0 < count → (place_at l (count - 1)).above < above) same early;
  late = λ k from lt. subst (λ l. above ≤ (place_at l k).above) same (late (subst IsOrdered (sym same) ordered) k from (omega (arith, lt, is)));
}

-- ---- in all

pub places_raised : (text : List ℕ) (rows : List Row) (from to columns : ℕ) (places lifted : List Place) (kept gone behind : ℕ) → EndsInInk text → from < to → to ≤ length rows
    → IsClear rows from 0 text → IsClear rows to 0 text → places ≡ standing text rows
    → AreCounted places to (length places) behind → AreCounted places (from + 1) behind gone → AreCounted places from gone kept
    → lifted ≡ take gone places ++ (map place_up (take (behind - gone) (drop gone places)) ++ drop behind places)
    → take kept lifted ++ drop gone lifted ≡ standing text (region_up from to columns rows)
places_raised text rows from to columns places lifted kept gone behind ink some within clear ends was last between first lifts =
    let one = front_places text rows from to columns ink some within clear in
    let two = gone_above text rows from to columns ink some within clear in
    let three = stay_later text rows from to columns ink some within clear in
    let four = rest_places text rows from to columns ink some within clear in
    let split = was ∙ up_before text rows from to columns ink some within clear ends in
    let cut = cut_in_rows one two three four places from (from + 1) to (length rows) kept gone behind (up_rows text rows from to columns ink some within clear) split
    (omega arith) (omega arith) within last between first in
    second_goes one two three four places lifted place_up kept gone behind split cut lifts ∙ sym (up_after text rows from to columns ink some within clear)

pub places_lowered : (text : List ℕ) (rows : List Row) (from to columns : ℕ) (places lowered : List Place) (kept staying behind : ℕ) → EndsInInk text → from < to → to ≤ length rows
    → length rows ≤ 2 ^ 64 - 1 → IsClear rows from 0 text → IsClear rows (to - 1) 0 text → places ≡ standing text rows
    → AreCounted places to (length places) behind → AreCounted places (to - 1) behind staying → AreCounted places from staying kept
    → lowered ≡ take kept places ++ (map place_down (take (staying - kept) (drop kept places)) ++ drop staying places)
    → take staying lowered ++ drop behind lowered ≡ standing text (region_down from to columns rows)
places_lowered text rows from to columns places lowered kept staying behind ink some within few clear ends was last between first lowers =
    let one = front_places text rows from to columns ink some within clear in
    let two = stay_early text rows from to columns ink some within clear in
    let three = gone_below text rows from to columns ink some within clear in
    let four = rest_places text rows from to columns ink some within clear in
    let split = was ∙ down_before text rows from to columns ink some within clear ends in
    let cut = cut_in_rows one two three four places from (to - 1) to (length rows) kept staying behind (down_rows text rows from to columns ink some within clear) split
    (omega arith) (omega arith) within last between first in
    third_goes one two three four places lowered place_down kept staying behind split cut lowers ∙ sym (down_after text rows from to columns ink some within clear few ends)
