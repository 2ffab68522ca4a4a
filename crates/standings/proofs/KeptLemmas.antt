-- Characters that are written over others, one after another: what stood before them stays.
use Rattle.std.proofs.Common.{◌≡◌, ℕ, zero, suc, ◌+◌, ◌-◌, ◌<◌, ◌≤◌, true, List, [], ◌∷◌, ◌++◌, append_assoc, cond, drop, get_or, length, min, nat_eq, take, refl, ap, subst, sym, ◌∙◌, arith, inl, inr}
use Rattle.std.specs.Cmp.Lexicographic.{pointwise}
use Rattle.std.proofs.lemmas.Bool.{cases_Bool, cases_eq, cases_lt, true≢false}
use Rattle.std.proofs.lemmas.Bool.Decides.{nat_tests}
use Rattle.std.proofs.lemmas.List.{get_or-append-add, get_or_append_left, length-append, length-drop, length-take-le, take-append-drop, take-append-le, take_more}
use Rattle.std.proofs.lemmas.List.Sums.{sum_by-append}
use Rattle.standings.specs.Kept.{EndBy, Keeps, room_in}
use Rattle.standings.specs.Rows.{Row, row_below}
use Rattle.standings.specs.Spans.{places_along}
use Rattle.standings.specs.Standing.{begins, count_left, left_of, line_text, place_at, place_in, places_in, standing}
use Rattle.standings.specs.declared.place.Place.{Place}
use Rattle.standings.proofs.FrontLemmas.{IsRewritten, NoNeighbours, as_many, begins_across, begins_before, begins_behind, first_left, in_three, in_two, last_written, leads, line_here, rewritten}
use Rattle.standings.proofs.PlaceLemmas.{along_fits, along_parts, along_within, standing_along}
use Rattle.standings.proofs.RowLemmas.{places_more}
use Rattle.standings.proofs.SpanLemmas.{line_below, places_of}

-- ---- what stays, in general

pub keeps_same : (text : List ℕ) (one other : List Row) → one ≡ other → Keeps text one other
keeps_same text one other same = subst (Keeps text one) same (λ left. omega arith)

pub keeps_on : (text : List ℕ) (one other another : List Row) → Keeps text one other → Keeps text other another → Keeps text one another
keeps_on text one other another first second = λ left. omega (arith, first left, second left)

-- ---- a place where a text begins is among the places

found_in_row : (text : List ℕ) (above : ℕ) (line : List ℕ) (n i : ℕ) → i < n → begins text line i ≡ true
    → (m : ℕ) × ((m < length (places_in text above line n)) × (place_at (places_in text above line n) m ≡ place_in above i))
found_in_row text above line zero i lt here = absurd (omega (arith, lt))
found_in_row text above line (suc n) i lt here =
    let next : n + 1 ≡ suc n = omega arith in
    let last = cond (begins text line n) (place_in above n ∷ []) [] in
    let all : places_in text above line (suc n) ≡ places_in text above line n ++ last = ap (places_in text above line) (sym next) ∙ places_more text above line n (begins text line n) refl in
    elim (cases_lt i n) [
      | inl low ↦
          let before = found_in_row text above line n i low here in (
            before.0,
            (
              omega (arith, before.1.0, ap length all, length-append (places_in text above line n) last),
              ap (λ l. place_at l before.0) all ∙ get_or_append_left (places_in text above line n) last (place_in 0 0) before.0 before.1.0 ∙ before.1.1,
            ),
          )
      | inr high ↦
          let is : n ≡ i = omega arith in
          let begun : begins text line n ≡ true = ap (begins text line) is ∙ here in
          let one : last ≡ place_in above n ∷ [] = ap (λ b. cond b (place_in above n ∷ []) []) begun in
          let k = length (places_in text above line n) in
          let at : k + 0 ≡ k = omega arith in (
            k,
            (
              omega (arith, ap length all, ap length one, length-append (places_in text above line n) last),
              ap (λ l. place_at l k) all ∙ ap (place_at (places_in text above line n ++ last)) (sym at)
                  ∙ get_or-append-add (places_in text above line n) last 0 (place_in 0 0) ∙ ap (λ l. place_at l 0) one ∙ ap (place_in above) is,
            ),
          )
    ]

pub found_at : (text : List ℕ) (rows : List Row) (k i : ℕ) → k < length rows → i < length (row_below rows k).characters → begins text (line_text (drop k rows)) i ≡ true
    → (n : ℕ) × ((n < length (standing text rows)) × (place_at (standing text rows) n ≡ place_in k i))
found_at text rows k i lt fits here =
    let m = length rows - (k + 1) in
    let parts : k + suc m ≡ length rows = omega arith in
    let from : 0 + k ≡ k = omega arith in
    let front = places_along text rows 0 k in
    let row = places_of text rows k in
    let rest = places_along text rows (k + 1) m in
    let all : standing text rows ≡ front ++ (row ++ rest) =
    standing_along text rows ∙ ap (places_along text rows 0) (sym parts) ∙ along_parts text rows k (suc m) 0 ∙ ap (λ j. front ++ places_along text rows j (suc m)) from in
    let found = found_in_row text k (line_text (drop k rows)) (length (row_below rows k).characters) i fits here in (
      length front + found.0,
      (
        omega (arith, found.1.0, ap length all, length-append front (row ++ rest), length-append row rest),
        ap (λ l. place_at l (length front + found.0)) all ∙ get_or-append-add front (row ++ rest) found.0 (place_in 0 0)
            ∙ get_or_append_left row rest (place_in 0 0) found.0 found.1.0 ∙ found.1.1,
      ),
    )

-- so where each place ends before what is written, so does the text wherever it begins
pub ends_here : (text : List ℕ) (rows : List Row) (places : List Place) (above before k i : ℕ) → EndBy (length text) rows places above before → places ≡ standing text rows
    → k ≤ above → k < length rows → i < length (row_below rows k).characters → begins text (line_text (drop k rows)) i ≡ true → i + length text ≤ room_in rows above before k
ends_here text rows places above before k i ends all low lt fits here =
    let found = found_at text rows k i lt fits here in
    let at : place_at places found.0 ≡ place_in k i = ap (λ l. place_at l found.0) all ∙ found.1.1 in
    let within : found.0 < length places = omega (arith, found.1.0, ap length all) in
    subst (λ (p : Place). p.before + length text ≤ room_in rows above before p.above) at
    (ends found.0 within (subst (λ (p : Place). p.above ≤ above) (sym at) low))

-- a row above has room for all its characters
room_above : (rows : List Row) (above before k : ℕ) → k < above → room_in rows above before k ≡ length (row_below rows k).characters
room_above rows above before k low = grind (arith, nat_tests)

-- a text of one character ends in its row, so at the first places, the last of which is in a row above
pub short_ends : (text : List ℕ) (rows : List Row) (places : List Place) (above before last n : ℕ) → length text ≤ 1 → places ≡ standing text rows → last ≤ length places → n < last
    → (place_at places (last - 1)).above < above → (place_at places n).before + length text ≤ room_in rows above before (place_at places n).above
short_ends text rows places above before last n short was within lt early =
    let e = min above (length rows) in
    let m = length rows - e in
    let all : e + m ≡ length rows = omega arith in
    let from : 0 + e ≡ e = omega arith in
    let front = places_along text rows 0 e in
    let rest = places_along text rows e m in
    let split : places ≡ front ++ rest =
    was ∙ standing_along text rows ∙ ap (places_along text rows 0) (sym all) ∙ along_parts text rows e m 0 ∙ ap (λ k. front ++ places_along text rows k m) from in
    let many : length places ≡ length front + length rest = ap length split ∙ length-append front rest in
    let tail = along_within text rows m e in
    let deep : last - 1 < length front = elim (cases_lt (last - 1) (length front)) [
      | inl inside ↦ inside
      | inr past ↦
          let i = last - 1 - length front in
          let at : length front + i ≡ last - 1 = omega (arith, past) in
          let some : i < length rest = omega (arith, past, lt, within, many) in
          let there : place_at places (last - 1) ≡ place_at rest i =
          ap (λ l. place_at l (last - 1)) split ∙ ap (λ j. place_at (front ++ rest) j) (sym at) ∙ get_or-append-add front rest i (place_in 0 0) in
          absurd (omega (arith, tail.from i some, tail.to i some, ap (λ (p : Place). p.above) there, early))
    ] in
    let first : n < length front = omega (arith, deep, lt) in
    let here : place_at places n ≡ place_at front n = ap (λ l. place_at l n) split ∙ get_or_append_left front rest (place_in 0 0) n first in
    let low : (place_at front n).above < above = omega (arith, (along_within text rows e 0).to n first) in
    let fits = along_fits text rows e 0 n first in
    subst (λ (p : Place). p.before + length text ≤ room_in rows above before p.above) (sym here)
    (omega (arith, fits, short, room_above rows above before (place_at front n).above low))

-- ---- row by row

-- where a text begins in a row it begins on another screen, and has the same to the left
abbrev RowKeeps : List ℕ → List Row → List Row → ℕ → Type 0
RowKeeps text one other k =
    (i : ℕ) → i < length (row_below one k).characters → begins text (line_text (drop k one)) i ≡ true
    → (begins text (line_text (drop k other)) i ≡ true) × (take i (row_below other k).characters ≡ take i (row_below one k).characters)

pub counted : (rows : List Row) (a b : List Place) (left : List ℕ) → count_left rows (a ++ b) left ≡ count_left rows a left + count_left rows b left
counted rows a b left = sum_by-append (λ place. cond (pointwise nat_eq (left_of rows place) left) 1 0) a b

row_counts : (text : List ℕ) (one other : List Row) (k n : ℕ) (left : List ℕ) → n ≤ length (row_below one k).characters → RowKeeps text one other k
    → count_left one (places_in text k (line_text (drop k one)) n) left ≤ count_left other (places_in text k (line_text (drop k other)) n) left
row_counts text one other k zero left few kept = omega arith
row_counts text one other k (suc n) left few kept =
    let next : n + 1 ≡ suc n = omega arith in
    let line = line_text (drop k one) in
    let line' = line_text (drop k other) in
    let last = cond (begins text line n) (place_in k n ∷ []) [] in
    let last' = cond (begins text line' n) (place_in k n ∷ []) [] in
    let all : places_in text k line (suc n) ≡ places_in text k line n ++ last = ap (places_in text k line) (sym next) ∙ places_more text k line n (begins text line n) refl in
    let all' : places_in text k line' (suc n) ≡ places_in text k line' n ++ last' = ap (places_in text k line') (sym next) ∙ places_more text k line' n (begins text line' n) refl in
    let before = row_counts text one other k n left (omega arith) kept in
    let sum = ap (λ l. count_left one l left) all ∙ counted one (places_in text k line n) last left in
    let sum' = ap (λ l. count_left other l left) all' ∙ counted other (places_in text k line' n) last' left in
    elim (cases_Bool (begins text line n)) [
      | inr f ↦
          let none : count_left one last left ≡ 0 = ap (λ b. count_left one (cond b (place_in k n ∷ []) []) left) f in
          omega (arith, before, sum, sum', none)
      | inl t ↦
          let there = kept n (omega arith) t in
          let some : count_left one last left ≡ count_left one (place_in k n ∷ []) left = ap (λ b. count_left one (cond b (place_in k n ∷ []) []) left) t in
          let some' : count_left other last' left ≡ count_left other (place_in k n ∷ []) left = ap (λ b. count_left other (cond b (place_in k n ∷ []) []) left) there.0 in
          let same : count_left other (place_in k n ∷ []) left ≡ count_left one (place_in k n ∷ []) left = ap {B = ℕ} (λ l. 0 + cond (pointwise nat_eq l left) 1 0) there.1 in
          omega (arith, before, sum, sum', some, some', same)
    ]

pub along_counts : (text : List ℕ) (one other : List Row) (n k : ℕ) (left : List ℕ)
    → ((j : ℕ) → k ≤ j → j < k + n → (length (row_below other j).characters ≡ length (row_below one j).characters) × RowKeeps text one other j)
    → count_left one (places_along text one k n) left ≤ count_left other (places_along text other k n) left
along_counts text one other zero k left kept = omega arith
along_counts text one other (suc n) k left kept =
    let here = kept k (omega arith) (omega arith) in
    let long = ap (λ m. count_left other (places_in text k (line_text (drop k other)) m) left) here.0 in
    omega (
      arith,
      long,
      row_counts text one other k (length (row_below one k).characters) left (omega arith) here.1,
      counted one (places_of text one k) (places_along text one (k + 1) n) left,
      counted other (places_of text other k) (places_along text other (k + 1) n) left,
      along_counts text one other n (k + 1) left (λ j low high. kept j (omega arith) (omega arith)),
    )

pub rows_keep : (text : List ℕ) (one other : List Row) → length other ≡ length one
    → ((k : ℕ) → k < length one → (length (row_below other k).characters ≡ length (row_below one k).characters) × RowKeeps text one other k) → Keeps text one other
rows_keep text one other count kept = λ left.
    subst (λ l. count_left one l left ≤ count_left other (standing text other) left) (sym (standing_along text one))
    (subst (λ l. count_left one (places_along text one 0 (length one)) left ≤ count_left other l left) (ap (places_along text other 0) (sym count) ∙ sym (standing_along text other))
    (along_counts text one other (length one) 0 left (λ k _ lt. kept k (omega arith))))

-- ---- a character more

module _ (text : List ℕ) (above n : ℕ) (pre old new post : List ℕ) (first one other : List Row) (inside : above < length first)
    (here : IsRewritten above first one) (there : IsRewritten above first other)
    (was : (row_below first above).characters ≡ pre ++ old ++ post)
    (is : (row_below one above).characters ≡ pre ++ (take n new ++ drop n old) ++ post)
    (will : (row_below other above).characters ≡ pre ++ (take (n + 1) new ++ drop (n + 1) old) ++ post)
    (same : length new ≡ length old) (within : n < length new) (some : 0 < length text)
    (apart : 0 < n → NoNeighbours text (get_or new (n - 1) 0) (get_or old n 0))
    (ends : (k i : ℕ) → k ≤ above → k < length first → i < length (row_below first k).characters → begins text (line_text (drop k first)) i ≡ true → i + length text ≤ room_in first above (length pre) k) where
  abbrev written : List ℕ
  written = pre ++ take n new

  written_length : length written ≡ length pre + n
  written_length = omega (arith, length-append pre (take n new), length-take-le n new (omega arith))

  abbrev rest : List ℕ
  rest = drop n old ++ post

  abbrev rest_then : List ℕ
  rest_then = get_or new n 0 ∷ drop (n + 1) old ++ post

  one_is : (row_below one above).characters ≡ written ++ rest
  one_is = is ∙ simp append_assoc

  other_is : (row_below other above).characters ≡ written ++ rest_then
  other_is = will ∙ ap (λ l. pre ++ (l ++ drop (n + 1) old) ++ post) (take_more new n 0 within) ∙ simp append_assoc

  long_one : length (row_below one above).characters ≡ length (row_below first above).characters
  long_one = omega (
    arith,
    ap length was,
    ap length is,
    in_three pre old post,
    in_three pre (take n new ++ drop n old) post,
    length-append (take n new) (drop n old),
    length-take-le n new (omega arith),
    length-drop n old,
  )

  long_other : length (row_below other above).characters ≡ length (row_below first above).characters
  long_other = omega (
    arith,
    ap length was,
    ap length will,
    in_three pre old post,
    in_three pre (take (n + 1) new ++ drop (n + 1) old) post,
    length-append (take (n + 1) new) (drop (n + 1) old),
    length-take-le (n + 1) new (omega arith),
    length-drop (n + 1) old,
  )

  long_row : (k : ℕ) → length (row_below other k).characters ≡ length (row_below one k).characters
  long_row k = as_many above k first other there long_other ∙ sym (as_many above k first one here long_one)

  abbrev more : List ℕ
  more = cond (row_below first above).runs_on (line_text (drop (above + 1) first)) []

  -- in a line that leads to the row, behind some characters that are the same: a text that begins before what is written next ends before it
  ends_line : (front : List ℕ) (i : ℕ) → begins text (front ++ ((pre ++ (take n new ++ drop n old) ++ post) ++ more)) i ≡ true
      → (begins text (front ++ ((pre ++ old ++ post) ++ more)) i ≡ true → i + length text ≤ length front + length pre) → i + length text ≤ length (front ++ pre ++ take n new)
  ends_line front i begun ended =
      let front_new = front ++ pre ++ take n new in
      let front_old = front ++ pre ++ take n old in
      let rest_old = drop n old ++ post ++ more in
      let line_is = in_two ((pre ++ (take n new ++ drop n old) ++ post) ++ more) front pre (take n new) (drop n old) post more refl in
      let line_was : front ++ ((pre ++ old ++ post) ++ more) ≡ front_old ++ rest_old =
      in_two ((pre ++ old ++ post) ++ more) front pre (take n old) (drop n old) post more (ap (λ l. (pre ++ l ++ post) ++ more) (sym (take-append-drop n old))) in
      let long_new : length front_new ≡ length front + length pre + n =
      omega (arith, length-append (front ++ pre) (take n new), length-append front pre, length-take-le n new (omega arith)) in
      let long_old : length front_old ≡ length front + length pre + n =
      omega (arith, length-append (front ++ pre) (take n old), length-append front pre, length-take-le n old (omega arith)) in
      let begun_new : begins text (front_new ++ rest_old) i ≡ true = ap (λ l. begins text l i) (sym line_is) ∙ begun in
      elim (cases_lt (length front_new) (i + length text)) [
        | inr fits ↦ fits
        | inl past ↦ elim (cases_lt i (length front_new)) [
          | inr behind ↦
              let there_too : begins text (front ++ ((pre ++ old ++ post) ++ more)) i ≡ true =
              ap (λ l. begins text l i) line_was ∙ sym (begins_behind front_new front_old rest_old text i (omega (arith, long_new, long_old)) behind) ∙ begun_new in
              absurd (omega (arith, ended there_too, long_new, behind, some))
          | inl low ↦ elim (cases_lt 0 n) [
            | inl begun_writing ↦
                absurd (true≢false (sym begun_new ∙ begins_across front_new rest_old text i low past
                (λ _. rw (last_written front pre new n begun_writing (omega arith), first_left old post more n (omega arith)) (apart begun_writing))))
            | inr none_yet ↦
                let start : n ≡ 0 = omega arith in
                let unwritten : take n new ++ drop n old ≡ old = ap (λ m. take m new ++ drop m old) start in
                let there_too : begins text (front ++ ((pre ++ old ++ post) ++ more)) i ≡ true = ap (λ l. begins text (front ++ ((pre ++ l ++ post) ++ more)) i) (sym unwritten) ∙ begun in
                absurd (omega (arith, ended there_too, long_new, past))
          ]
        ]
      ]

  -- what comes behind what is written next doesn't matter to a text that ends before it
  goes_on : (front : List ℕ) (i : ℕ) → begins text (front ++ ((pre ++ (take n new ++ drop n old) ++ post) ++ more)) i ≡ true → i + length text ≤ length (front ++ pre ++ take n new)
      → begins text (front ++ ((pre ++ (take (n + 1) new ++ drop (n + 1) old) ++ post) ++ more)) i ≡ true
  goes_on front i begun fits =
      let front_new = front ++ pre ++ take n new in
      let tail = get_or new n 0 ∷ drop (n + 1) old in
      let next : take (n + 1) new ++ drop (n + 1) old ≡ take n new ++ tail = ap (λ l. l ++ drop (n + 1) old) (take_more new n 0 within) ∙ simp append_assoc in
      ap (λ l. begins text (front ++ ((pre ++ l ++ post) ++ more)) i) next
      ∙ ap (λ l. begins text l i) (in_two ((pre ++ (take n new ++ tail) ++ post) ++ more) front pre (take n new) tail post more refl)
      ∙ begins_before front_new (tail ++ post ++ more) (drop n old ++ post ++ more) text i fits
      ∙ ap (λ l. begins text l i) (sym (in_two ((pre ++ (take n new ++ drop n old) ++ post) ++ more) front pre (take n new) (drop n old) post more refl))
      ∙ begun

  -- the line from the row on, on each screen
  line_one : line_text (drop above one) ≡ (pre ++ (take n new ++ drop n old) ++ post) ++ more
  line_one = line_here first one above (pre ++ (take n new ++ drop n old) ++ post) here is

  line_other : line_text (drop above other) ≡ (pre ++ (take (n + 1) new ++ drop (n + 1) old) ++ post) ++ more
  line_other = line_here first other above (pre ++ (take (n + 1) new ++ drop (n + 1) old) ++ post) there will

  line_first : line_text (drop above first) ≡ (pre ++ old ++ post) ++ more
  line_first = line_here first first above (pre ++ old ++ post) (rewritten first above) was

  -- the rows below
  row_past : (k : ℕ) → above < k → RowKeeps text one other k
  row_past k past i lt begun =
      let row = λ (j : ℕ) (low : k ≤ j). there.others j (λ e. omega (arith, e, past, low)) ∙ sym (here.others j (λ e. omega (arith, e, past, low))) in (
        ap (λ l. begins text l i) (line_below one other (length one) k (omega arith) (there.count ∙ sym here.count) row) ∙ begun,
        ap (λ (r : Row). take i r.characters) (row k (omega arith)),
      )

  -- the row itself
  row_here : RowKeeps text one other above
  row_here i lt begun =
      let begun_line : begins text ([] ++ ((pre ++ (take n new ++ drop n old) ++ post) ++ more)) i ≡ true = ap (λ l. begins text l i) (sym line_one) ∙ begun in
      let fits = ends_line [] i begun_line (λ too. ended i lt (ap (λ l. begins text l i) line_first ∙ too)) in (
        ap (λ l. begins text l i) line_other ∙ goes_on [] i begun_line fits,
        ap (take i) other_is ∙ take-append-le i written rest_then (omega (arith, fits))
            ∙ sym (ap (take i) one_is ∙ take-append-le i written rest (omega (arith, fits))),
      )
    where
      itself : (k : ℕ) → room_in first k (length pre) k ≡ 0 + length pre
      itself k = grind (arith, nat_tests)

      ended : (i : ℕ) → i < length (row_below one above).characters → begins text (line_text (drop above first)) i ≡ true → i + length text ≤ 0 + length pre
      ended i lt too =
          let fits = ends above i (omega arith) inside (omega (arith, lt, long_one)) too in
          subst (λ m. i + length text ≤ m) (itself above) fits

  -- the rows above, of which some lead to it
  by_lead : (k : ℕ) (front : List ℕ) → k < above → length (row_below first k).characters ≤ length front → line_text (drop k first) ≡ front ++ line_text (drop above first)
      → line_text (drop k one) ≡ front ++ line_text (drop above one) → line_text (drop k other) ≡ front ++ line_text (drop above other)
      → (i : ℕ) → i < length (row_below one k).characters → begins text (line_text (drop k one)) i ≡ true → begins text (line_text (drop k other)) i ≡ true
  by_lead k front low long first_is one_too other_too i lt begun =
      let begun_line : begins text (front ++ ((pre ++ (take n new ++ drop n old) ++ post) ++ more)) i ≡ true =
      ap (λ l. begins text l i) (sym (one_too ∙ ap (λ l. front ++ l) line_one)) ∙ begun in
      let fits = ends_line front i begun_line (λ too.
      omega (
        arith,
        long,
        subst (λ m. i + length text ≤ m) (room_above first above (length pre) k low)
            (ends k i (omega arith) (omega (arith, low, inside)) (omega (arith, lt, ap (λ (r : Row). length r.characters) (here.others k (λ e. omega (arith, e, low)))))
            (ap (λ l. begins text l i) (first_is ∙ ap (λ l. front ++ l) line_first) ∙ too)),
      )) in
      ap (λ l. begins text l i) (other_too ∙ ap (λ l. front ++ l) line_other) ∙ goes_on front i begun_line fits

  row_above : (k : ℕ) → k < above → RowKeeps text one other k
  row_above k low i lt begun =
      let row = there.others k (λ e. omega (arith, e, low)) ∙ sym (here.others k (λ e. omega (arith, e, low))) in (
        elim (leads first one other above (above - k) k (omega arith) here there) [
          | inl lead ↦ by_lead k lead.front low (lead.long low) lead.first lead.second lead.third i lt begun
          | inr same_line ↦ elim (leads first other one above (above - k) k (omega arith) there here) [
            | inl lead ↦ by_lead k lead.front low (lead.long low) lead.first lead.third lead.second i lt begun
            | inr same_too ↦ ap (λ l. begins text l i) (same_too.1 ∙ sym same_line.1) ∙ begun
          ]
        ],
        ap (λ (r : Row). take i r.characters) row,
      )

  -- each place stays, as what is written next comes behind it
  pub keeps_more : Keeps text one other
  keeps_more = rows_keep text one other (there.count ∙ sym here.count) (λ k lt. (
    long_row k,
    elim (cases_lt above k) [
      | inl past ↦ row_past k past
      | inr low ↦ elim (cases_eq k above) [
        | inl e ↦ subst (RowKeeps text one other) (sym e) row_here
        | inr apart_rows ↦ row_above k (omega (arith, low, apart_rows))
      ]
    ],
  ))
