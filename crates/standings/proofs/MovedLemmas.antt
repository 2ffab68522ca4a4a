-- Rows that move up by one, the places in them, and the row that comes in below.
use Rattle.std.proofs.Common.{◌≡◌, ℕ, zero, suc, ◌+◌, ◌-◌, ◌<◌, ◌≤◌, List, [], ◌∷◌, ◌++◌, append_assoc, append-nil, cond, drop, filter, length, map, set, take, refl, ap, ap₂, subst, sym, ◌∙◌, arith}
use Rattle.std.specs.List.{range_with_len}
use Rattle.std.proofs.lemmas.List.{drop_all, drop_at, get_or_append_left, get_or_past, length-append, length-drop, map-append}
use Rattle.standings.specs.Moved.{moved_up, place_up, spaces_row}
use Rattle.standings.specs.Rows.{Row, empty_row}
use Rattle.standings.specs.Spans.{Stays, places_along, span_of}
use Rattle.standings.specs.Standing.{begins, line_text, place_at, place_in, places_from, places_in, standing}
use Rattle.standings.specs.declared.place.Place.{Place}
use Rattle.standings.proofs.PlaceLemmas.{along_parts, along_within, count_is, from_along, standing_along, within_more}

-- ---- the places of all rows but the first ones, so many rows further up

-- a place, in the row of another number
abbrev numbered : (ℕ → ℕ) → Place → Place
numbered f place = place_in (f place.above) place.before

numbered_in : (f : ℕ → ℕ) (above there : ℕ) (starts : List ℕ) → f above ≡ there → map (numbered f) (map (place_in above) starts) ≡ map (place_in there) starts
numbered_in f above there [] is = refl
numbered_in f above there (before ∷ starts) is = ap₂ (λ k l. place_in k before ∷ l) is (numbered_in f above there starts is)

-- the places of rows, where each of these has another number
pub numbered_from : (f : ℕ → ℕ) (text : List ℕ) (rows : List Row) (above there : ℕ) → ((k : ℕ) → k < length rows → f (above + k) ≡ there + k)
    → map (numbered f) (places_from text above rows) ≡ places_from text there rows
unfolding places_from
numbered_from f text [] above there is = refl
numbered_from f text (row ∷ rows) above there is =
    let line = line_text (row ∷ rows) in
    let m = length row.characters in
    let here : above + 0 ≡ above = omega arith in
    let also : there + 0 ≡ there = omega arith in
    map-append (numbered f) (places_in text above line m) (places_from text (above + 1) rows)
    ∙ ap₂ (λ a b. a ++ b) (numbered_in f above there (filter (begins text line) (range_with_len 0 m)) (ap f (sym here) ∙ is 0 (omega arith) ∙ also))
    (numbered_from f text rows (above + 1) (there + 1) (λ k lt.
    let next : above + 1 + k ≡ above + (k + 1) = omega arith in
    let more : there + (k + 1) ≡ there + 1 + k = omega arith in
    ap f next ∙ is (k + 1) (omega (arith, lt)) ∙ more))

-- a place, so many rows further up
abbrev pub lifted : ℕ → Place → Place
lifted n place = place_in (place.above - n) place.before

pub up_from : (n : ℕ) (text : List ℕ) (rows : List Row) (above : ℕ) → map (lifted n) (places_from text (above + n) rows) ≡ places_from text above rows
up_from n text rows above = numbered_from (λ k. k - n) text rows (above + n) above (λ k lt. omega arith)

-- those of the first so many rows are as many as stand above the next
pub below_first : (text : List ℕ) (rows : List Row) (places : List Place) (n c : ℕ) → n ≤ length rows → places ≡ standing text rows → c ≤ length places
    → ((k : ℕ) → k < c → (place_at places k).above < n) → (c < length places → n ≤ (place_at places c).above) → drop c places ≡ places_from text n (drop n rows)
below_first text rows places n c some was within below ends =
    let m = length rows - n in
    let all : n + m ≡ length rows = omega (arith, some) in
    let from : 0 + n ≡ n = omega arith in
    let front = places_along text rows 0 n in
    let rest = places_along text rows n m in
    let split : places ≡ front ++ rest =
    was ∙ standing_along text rows ∙ ap (places_along text rows 0) (sym all) ∙ along_parts text rows n m 0 ∙ ap (λ k. front ++ places_along text rows k m) from in
    let cut : c ≡ length front =
    count_is front rest n c 0 (n + m) (within_more front 0 (0 + n) 0 n (omega arith) (omega arith) (along_within text rows n 0)) (along_within text rows m n)
    (subst (λ l. c ≤ length l) split within) (subst (λ l. (k : ℕ) → k < c → (place_at l k).above < n) split below)
    (subst (λ l. c < length l → n ≤ (place_at l c).above) split ends) in
    ap (drop c) split ∙ drop_at front rest c (sym cut) ∙ sym (from_along text rows m n all)

pub places_up : (text : List ℕ) (rows : List Row) (places left : List Place) (c : ℕ) → places ≡ standing text rows → c ≤ length places
    → ((k : ℕ) → k < c → (place_at places k).above < 1) → (c < length places → 1 ≤ (place_at places c).above)
    → left ≡ drop c places → map place_up left ≡ standing text (drop 1 rows)
unfolding places_from
places_up text [] places left c was within below ends leaves =
    ap (map place_up) (leaves ∙ ap (drop c) was ∙ drop_all c [] (omega arith))
places_up text (row ∷ rows) places left c was within below ends leaves =
    ap (map place_up) (leaves ∙ below_first text (row ∷ rows) places 1 c (omega arith) was within below ends) ∙ up_from 1 text rows 0

-- ---- rows without a character below the others

line_more : (rows : List Row) → line_text (rows ++ empty_row ∷ []) ≡ line_text rows
unfolding line_text
line_more [] = refl
line_more (row ∷ rows) = ap (λ l. row.characters ++ cond row.runs_on l []) (line_more rows)

from_more : (text : List ℕ) (rows : List Row) (above : ℕ) → places_from text above (rows ++ empty_row ∷ []) ≡ places_from text above rows
unfolding places_from
from_more text [] above = refl
from_more text (row ∷ rows) above =
    ap₂ (λ line more. places_in text above line (length row.characters) ++ more) (line_more (row ∷ rows)) (from_more text rows (above + 1))

pub standing_below : (text : List ℕ) (rows : List Row) → standing text (rows ++ empty_row ∷ []) ≡ standing text rows
standing_below text rows = from_more text rows 0

abbrev pub blank_rows : ℕ → List Row
blank_rows zero = []
blank_rows (suc n) = empty_row ∷ blank_rows n

pub blank_count : (n : ℕ) → length (blank_rows n) ≡ n
blank_count zero = refl
blank_count (suc n) = ap suc (blank_count n)

pub standing_above : (text : List ℕ) (rows : List Row) (n : ℕ) → standing text (rows ++ blank_rows n) ≡ standing text rows
standing_above text rows zero = ap (λ l. standing text l) (append-nil rows)
standing_above text rows (suc n) =
    ap (λ l. standing text l) (sym (append_assoc rows (empty_row ∷ []) (blank_rows n)))
    ∙ standing_above text (rows ++ empty_row ∷ []) n ∙ standing_below text rows

-- ---- the rows

-- the first one becomes another, and comes last
pub put_last : (rows turned : List Row) (row : Row) → 0 < length rows → turned ≡ drop 1 (set rows 0 row) ++ take 1 (set rows 0 row) → turned ≡ drop 1 rows ++ row ∷ []
put_last [] turned row some turns = absurd (omega (arith, some))
put_last (first ∷ rows) turned row some turns = turns

last_differs : (rows : List Row) (one other : Row) (from to : ℕ) → from ≡ length rows → to ≡ length rows + 1
    → Stays (span_of from to) (rows ++ one ∷ []) (rows ++ other ∷ [])
last_differs rows one other from to first last = record {
  count = length-append rows (other ∷ []) ∙ sym (length-append rows (one ∷ []));
  above = λ k lt.
      get_or_append_left rows (other ∷ []) empty_row k (omega (arith, lt)) ∙ sym (get_or_append_left rows (one ∷ []) empty_row k (omega (arith, lt)));
  below = λ k ge.
      get_or_past (rows ++ other ∷ []) k empty_row (omega (arith, ge, length-append rows (other ∷ [])))
      ∙ sym (get_or_past (rows ++ one ∷ []) k empty_row (omega (arith, ge, length-append rows (one ∷ []))));
}

-- from the rows that moved up with one without a character below them, only the one that came in
pub came_in : (columns count : ℕ) (rows : List Row) → 0 < length rows → count ≡ length rows → Stays (span_of (count - 1) count) (drop 1 rows ++ empty_row ∷ []) (moved_up columns rows)
came_in columns count rows some is =
    last_differs (drop 1 rows) empty_row (spaces_row columns) (count - 1) count (omega (arith, length-drop 1 rows)) (omega (arith, length-drop 1 rows))
