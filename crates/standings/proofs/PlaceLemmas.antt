-- Places row by row, and those that stay where only some rows differ.
use Rattle.std.proofs.Common.{◌≡◌, [], ◌∷◌, cond, true, ℕ, zero, suc, ◌+◌, ◌-◌, ◌<◌, ◌≤◌, List, ◌++◌, append_assoc, append-nil, drop, length, take, refl, ap, ap₂, sym, ◌∙◌, subst, arith, inl, inr}
use Rattle.std.proofs.lemmas.Bool.{cases_Bool, cases_lt}
use Rattle.std.proofs.lemmas.List.{drop_all, drop_at, get_or-append-add, get_or-take, get_or_append_left, length-append, length-take, take_at}
use Rattle.standings.specs.Near.{IsOrdered, places_part}
use Rattle.standings.specs.Rows.{Row, row_below}
use Rattle.standings.specs.Spans.{Stays, characters_in, places_along}
use Rattle.standings.specs.Standing.{begins, line_text, place_at, place_in, places_from, standing}
use Rattle.standings.specs.declared.place.Place.{Place}
use Rattle.standings.specs.declared.span.Span.{Span}
use Rattle.standings.proofs.RowLemmas.{part_first, places_row}
use Rattle.standings.proofs.SpanLemmas.{places_of, places_stay}

-- ---- the places of rows, one after another

pub along_more : (text : List ℕ) (rows : List Row) (above n : ℕ) → places_along text rows above (n + 1) ≡ places_along text rows above n ++ places_of text rows (above + n)
along_more text rows above zero =
    let here : above ≡ above + 0 = omega arith in
    append-nil (places_of text rows above) ∙ ap (places_of text rows) here
along_more text rows above (suc n) =
    let more : suc n + 1 ≡ suc (n + 1) = omega arith in
    let there : above + 1 + n ≡ above + suc n = omega arith in
    ap (places_along text rows above) more
    ∙ ap (λ l. places_of text rows above ++ l) (along_more text rows (above + 1) n ∙ ap (λ k. places_along text rows (above + 1) n ++ places_of text rows k) there)
    ∙ sym (append_assoc (places_of text rows above) (places_along text rows (above + 1) n) (places_of text rows (above + suc n)))

pub from_along : (text : List ℕ) (rows : List Row) (n above : ℕ) → above + n ≡ length rows → places_from text above (drop above rows) ≡ places_along text rows above n
unfolding places_from
from_along text rows zero above all = ap (places_from text above) (drop_all above rows (omega arith))
from_along text rows (suc n) above all =
    places_row text rows above (omega arith) ∙ ap (λ l. places_of text rows above ++ l) (from_along text rows n (above + 1) (omega arith))

pub standing_along : (text : List ℕ) (rows : List Row) → standing text rows ≡ places_along text rows 0 (length rows)
standing_along text rows = from_along text rows (length rows) 0 (omega arith)

pub along_parts : (text : List ℕ) (rows : List Row) (n m above : ℕ) → places_along text rows above (n + m) ≡ places_along text rows above n ++ places_along text rows (above + n) m
along_parts text rows zero m above =
    let all : 0 + m ≡ m = omega arith in
    let here : above ≡ above + 0 = omega arith in
    ap (places_along text rows above) all ∙ ap (λ k. places_along text rows k m) here
along_parts text rows (suc n) m above =
    let more : suc n + m ≡ suc (n + m) = omega arith in
    let there : above + 1 + n ≡ above + suc n = omega arith in
    ap (places_along text rows above) more
    ∙ ap (λ l. places_of text rows above ++ l) (along_parts text rows n m (above + 1) ∙ ap (λ k. places_along text rows (above + 1) n ++ places_along text rows k m) there)
    ∙ sym (append_assoc (places_of text rows above) (places_along text rows (above + 1) n) (places_along text rows (above + suc n) m))

pub along_same : (text : List ℕ) (one other : List Row) (n above : ℕ) → ((k : ℕ) → above ≤ k → k < above + n → places_of text other k ≡ places_of text one k)
    → places_along text other above n ≡ places_along text one above n
along_same text one other zero above same = refl
along_same text one other (suc n) above same =
    ap₂ (λ a b. a ++ b) (same above (omega arith) (omega arith)) (along_same text one other n (above + 1) (λ k low high. same k (omega arith) (omega arith)))

-- ---- places of which the same is said

abbrev pub AllAre : (Place → Type 0) → List Place → Type 0
AllAre P places = (j : ℕ) → j < length places → P (place_at places j)

pub are_both : (P : Place → Type 0) (a b : List Place) → AllAre P a → AllAre P b → AllAre P (a ++ b)
are_both P a b first second = λ j lt. elim (cases_lt j (length a)) [
  | inl fore ↦ subst P (sym (get_or_append_left a b (place_in 0 0) j fore)) (first j fore)
  | inr past ↦
      let i = j - length a in
      let parts : length a + i ≡ j = omega arith in
      subst (λ m. P (place_at (a ++ b) m)) parts
      (subst P (sym (get_or-append-add a b i (place_in 0 0))) (second i (omega (arith, lt, length-append a b))))
]

pub part_all : (P : Place → Type 0) (text : List ℕ) (above : ℕ) (line : List ℕ) (n start : ℕ) → ((i : ℕ) → start ≤ i → i < start + n → P (place_in above i)) → AllAre P (places_part text above line start n)
part_all P text above line zero start are = λ j lt. absurd (omega (arith, lt))
part_all P text above line (suc n) start are =
    subst (AllAre P) (sym (part_first text above line start n (begins text line start) refl))
    (are_both P (cond (begins text line start) (place_in above start ∷ []) []) (places_part text above line (start + 1) n)
    (elim (cases_Bool (begins text line start)) [
      | inr f ↦ rw f (λ j lt. absurd (omega (arith, lt)))
      | inl t ↦ rw t (λ j lt. let first : 0 ≡ j = omega (arith, lt) in subst (λ k. P (place_at (place_in above start ∷ []) k)) first (are start (omega arith) (omega arith)))
    ])
    (part_all P text above line n (start + 1) (λ i low lt. are i (omega arith) (omega arith))))

-- ---- in which rows they are

pub record IsWithin (places : List Place) (low high : ℕ) : Type 0 where
  pub from : (j : ℕ) → j < length places → low ≤ (place_at places j).above
  pub to : (j : ℕ) → j < length places → (place_at places j).above < high

pub within_both : (a b : List Place) (low high : ℕ) → IsWithin a low high → IsWithin b low high → IsWithin (a ++ b) low high
within_both a b low high first second = record {
  from = are_both (λ place. low ≤ place.above) a b first.from second.from;
  to = are_both (λ place. place.above < high) a b first.to second.to;
}

pub within_more : (places : List Place) (low high low' high' : ℕ) → low' ≤ low → high ≤ high' → IsWithin places low high → IsWithin places low' high'
within_more places low high low' high' lower higher is = record {
  from = λ j lt. omega (arith, lower, is.from j lt);
  to = λ j lt. omega (arith, higher, is.to j lt);
}

pub along_within : (text : List ℕ) (rows : List Row) (n above : ℕ) → IsWithin (places_along text rows above n) above (above + n)
along_within text rows zero above = record { from = λ j lt. absurd (omega (arith, lt)); to = λ j lt. absurd (omega (arith, lt)) }
along_within text rows (suc n) above =
    let line = line_text (drop above rows) in
    let count = length (row_below rows above).characters in
    within_both (places_of text rows above) (places_along text rows (above + 1) n) above (above + suc n)
    (record {
      from = part_all (λ place. above ≤ place.above) text above line count 0 (λ i _ _. omega arith);
      to = part_all (λ place. place.above < above + suc n) text above line count 0 (λ i _ _. omega arith);
    })
    (within_more (places_along text rows (above + 1) n) (above + 1) (above + 1 + n) above (above + suc n) (omega arith) (omega arith) (along_within text rows n (above + 1)))

-- so those of rows come in their order
ordered_both : (a b : List Place) (m : ℕ) → IsOrdered a → AllAre (λ place. place.above ≤ m) a → IsOrdered b → AllAre (λ place. m ≤ place.above) b → IsOrdered (a ++ b)
ordered_both a b m first low second high = λ i j order lt.
    let fore = λ (k : ℕ) (is : k < length a). ap (λ (p : Place). p.above) (get_or_append_left a b (place_in 0 0) k is) in
    let past = λ (k n : ℕ) (is : length a + n ≡ k). ap (λ m. (place_at (a ++ b) m).above) (sym is) ∙ ap (λ (p : Place). p.above) (get_or-append-add a b n (place_in 0 0)) in
    elim (cases_lt j (length a)) [
      | inl near ↦
          omega (arith, fore j near, fore i (omega (arith, near, order)), first i j order near)
      | inr far ↦
          let n = j - length a in
          let there : length a + n ≡ j = omega (arith, far) in
          let within : n < length b = omega (arith, lt, far, length-append a b) in
          elim (cases_lt i (length a)) [
            | inl near ↦
                omega (arith, past j n there, fore i near, low i near, high n within)
            | inr also ↦
                let k = i - length a in
                let here : length a + k ≡ i = omega (arith, also) in
                omega (arith, past j n there, past i k here, second k n (omega (arith, order, here, there)) within)
          ]
    ]

pub along_ordered : (text : List ℕ) (rows : List Row) (n above : ℕ) → IsOrdered (places_along text rows above n)
along_ordered text rows zero above = λ i j order lt. absurd (omega (arith, lt))
along_ordered text rows (suc n) above =
    let line = line_text (drop above rows) in
    let count = length (row_below rows above).characters in
    let low = part_all (λ place. place.above ≤ above) text above line count 0 (λ i _ _. omega arith) in
    let high = part_all (λ place. above ≤ place.above) text above line count 0 (λ i _ _. omega arith) in
    ordered_both (places_of text rows above) (places_along text rows (above + 1) n) above
    (λ i j order lt. omega (arith, low i (omega (arith, order, lt)), high j lt)) low
    (along_ordered text rows n (above + 1))
    (λ j lt. omega (arith, (along_within text rows n (above + 1)).from j lt))

pub standing_ordered : (text : List ℕ) (rows : List Row) (places : List Place) → places ≡ standing text rows → IsOrdered places
standing_ordered text rows places is = subst IsOrdered (sym (is ∙ standing_along text rows)) (along_ordered text rows (length rows) 0)

pub standing_within : (text : List ℕ) (rows : List Row) (places : List Place) → places ≡ standing text rows → IsWithin places 0 (length rows)
standing_within text rows places is =
    let all : 0 + length rows ≡ length rows = omega arith in
    subst (λ l. IsWithin l 0 (length rows)) (sym (is ∙ standing_along text rows)) (subst (IsWithin (places_along text rows 0 (length rows)) 0) all (along_within text rows (length rows) 0))

pub ordered_take : (places : List Place) (n : ℕ) → IsOrdered places → IsOrdered (take n places)
ordered_take places n ordered = λ i j order lt.
    let short : j < n = omega (arith, lt, length-take n places) in
    let within : j < length places = omega (arith, lt, length-take n places) in
    let same = λ (k : ℕ) (is : k < n). ap (λ (p : Place). p.above) (get_or-take n places k (place_in 0 0) is) in
    omega (arith, same i (omega (arith, order, short)), same j short, ordered i j order within)

-- a text that begins there has a character in its row
pub along_fits : (text : List ℕ) (rows : List Row) (n above : ℕ) → AllAre (λ place. place.before < length (row_below rows place.above).characters) (places_along text rows above n)
along_fits text rows zero above = λ j lt. absurd (omega (arith, lt))
along_fits text rows (suc n) above =
    are_both (λ place. place.before < length (row_below rows place.above).characters) (places_of text rows above) (places_along text rows (above + 1) n)
    (part_all (λ place. place.before < length (row_below rows place.above).characters) text above (line_text (drop above rows)) (length (row_below rows above).characters) 0
    (λ i _ lt. omega (arith, lt)))
    (along_fits text rows n (above + 1))

-- so many of them stand above a row
pub count_is : (a b : List Place) (n c low high : ℕ) → IsWithin a low n → IsWithin b n high → c ≤ length (a ++ b)
    → ((k : ℕ) → k < c → (place_at (a ++ b) k).above < n) → (c < length (a ++ b) → n ≤ (place_at (a ++ b) c).above) → c ≡ length a
count_is a b n c low high first second within below ends = elim (cases_lt c (length a)) [
  | inl few ↦
      let here = subst (λ (p : Place). n ≤ p.above) (get_or_append_left a b (place_in 0 0) c few) (ends (omega (arith, length-append a b))) in
      absurd (omega (arith, here, first.to c few))
  | inr enough ↦ elim (cases_lt (length a) c) [
    | inr same ↦ omega arith
    | inl many ↦
        let at : length a + 0 ≡ length a = omega arith in
        let some : 0 < length b = omega (arith, within, length-append a b) in
        let low_there = subst (λ (p : Place). p.above < n) (get_or-append-add a b 0 (place_in 0 0)) (subst (λ m. (place_at (a ++ b) m).above < n) (sym at) (below (length a) many)) in
        absurd (omega (arith, low_there, second.from 0 some))
  ]
]

-- so where they were passed from the last one on
pub count_late : (a b : List Place) (n c low high : ℕ) → IsWithin a low n → IsWithin b n high → c ≤ length (a ++ b)
    → (0 < c → (place_at (a ++ b) (c - 1)).above < n) → ((k : ℕ) → c ≤ k → k < length (a ++ b) → n ≤ (place_at (a ++ b) k).above) → c ≡ length a
count_late a b n c low high first second within early late = elim (cases_lt c (length a)) [
  | inl few ↦
      let here = subst (λ (p : Place). n ≤ p.above) (get_or_append_left a b (place_in 0 0) c few) (late c (omega arith) (omega (arith, few, length-append a b))) in
      absurd (omega (arith, here, first.to c few))
  | inr enough ↦ elim (cases_lt (length a) c) [
    | inr same ↦ omega arith
    | inl many ↦
        let k = c - 1 - length a in
        let at : length a + k ≡ c - 1 = omega (arith, many) in
        let some : k < length b = omega (arith, within, many, length-append a b) in
        let there = subst (λ (p : Place). p.above < n) (get_or-append-add a b k (place_in 0 0)) (subst (λ m. (place_at (a ++ b) m).above < n) (sym at) (early (omega (arith, many)))) in
        absurd (omega (arith, there, second.from k some))
  ]
]

-- ---- where only some rows differ

-- where a text stood, in three parts, and where it stands, of which only the second is another one
pub record IsAgain (text : List ℕ) (one other : List Row) (start end : ℕ) : Type 0 where
  pub front : List Place
  pub was : List Place
  pub rest : List Place
  pub before : standing text one ≡ front ++ (was ++ rest)
  pub after : standing text other ≡ front ++ (places_along text other start (end - start) ++ rest)
  pub front_rows : IsWithin front 0 start
  pub was_rows : IsWithin was start end
  pub rest_rows : IsWithin rest end (length other)

pub again : (text : List ℕ) (span : Span) (one other : List Row) (start end reach : ℕ) → Stays span one other → reach ≤ span.from
    → (0 < reach → (row_below other (reach - 1)).runs_on ≡ true → length text ≤ characters_in other reach (span.from - reach) + 1)
    → start ≤ reach → start ≤ end → end ≤ length other → (end < span.to → end ≡ length other) → IsAgain text one other start end
again text span one other start end reach stays low ends early order high all =
    let n = end - start in
    let m = length other - end in
    let parts : start + (n + m) ≡ length other = omega arith in
    let there : start + n ≡ end = omega arith in
    let from : 0 + start ≡ start = omega arith in
    let last : end + m ≡ length other = omega arith in
    let split = λ (rows : List Row).
    along_parts text rows start (n + m) 0 ∙ ap (λ k. places_along text rows 0 start ++ places_along text rows k (n + m)) from
    ∙ ap (λ l. places_along text rows 0 start ++ l) (along_parts text rows n m start ∙ ap (λ k. places_along text rows start n ++ places_along text rows k m) there) in
    let same_above = along_same text one other start 0 (λ k _ lt. places_stay text span reach one other k stays low ends (omega arith) (inl (omega arith))) in
    let same_below = along_same text one other m end (λ k from lt. places_stay text span reach one other k stays low ends (omega arith)
    (inr (elim (cases_lt end span.to) [ inl past ↦ absurd (omega (arith, all past)) | inr within ↦ omega arith ]))) in
    record {
      front = places_along text one 0 start;
      was = places_along text one start n;
      rest = places_along text one end m;
      before = standing_along text one ∙ ap (places_along text one 0) (sym stays.count ∙ sym parts) ∙ split one;
      after = standing_along text other ∙ ap (places_along text other 0) (sym parts) ∙ split other
          ∙ ap₂ (λ a c. a ++ (places_along text other start n ++ c)) same_above same_below;
      front_rows = within_more (places_along text one 0 start) 0 (0 + start) 0 start (omega arith) (omega arith) (along_within text one start 0);
      was_rows = within_more (places_along text one start n) start (start + n) start end (omega arith) (omega arith) (along_within text one n start);
      rest_rows = within_more (places_along text one end m) end (end + m) end (length other) (omega arith) (omega arith) (along_within text one m end);
    }

-- the parts are cut where the rows are
pub late_second : (text : List ℕ) (one other : List Row) (start end c : ℕ) (places : List Place) (is : IsAgain text one other start end) → start ≤ end → end ≤ length other → places ≡ standing text one
    → c ≤ length places → (0 < c → (place_at places (c - 1)).above < end) → ((k : ℕ) → c ≤ k → k < length places → end ≤ (place_at places k).above) → c ≡ length (is.front ++ is.was)
late_second text one other start end c places is order high same within early late =
    let cut = same ∙ is.before ∙ sym (append_assoc is.front is.was is.rest) in
    count_late (is.front ++ is.was) is.rest end c 0 (length other)
    (within_both is.front is.was 0 end (within_more is.front 0 start 0 end (omega arith) order is.front_rows) (within_more is.was start end 0 end (omega arith) (omega arith) is.was_rows))
    is.rest_rows
    (subst (λ l. c ≤ length l) cut within) (subst (λ l. 0 < c → (place_at l (c - 1)).above < end) cut early) (subst (λ l. (k : ℕ) → c ≤ k → k < length l → end ≤ (place_at l k).above) cut late)

pub late_first : (text : List ℕ) (one other : List Row) (start end c : ℕ) (places : List Place) (is : IsAgain text one other start end) → start ≤ end → end ≤ length other → places ≡ standing text one
    → c ≤ length places → (0 < c → (place_at places (c - 1)).above < start) → ((k : ℕ) → c ≤ k → k < length places → start ≤ (place_at places k).above) → c ≡ length is.front
late_first text one other start end c places is order high same within early late =
    let cut = same ∙ is.before in
    count_late is.front (is.was ++ is.rest) start c 0 (length other) is.front_rows
    (within_both is.was is.rest start (length other)
    (within_more is.was start end start (length other) (omega arith) high is.was_rows) (within_more is.rest end (length other) start (length other) order (omega arith) is.rest_rows))
    (subst (λ l. c ≤ length l) cut within) (subst (λ l. 0 < c → (place_at l (c - 1)).above < start) cut early) (subst (λ l. (k : ℕ) → c ≤ k → k < length l → start ≤ (place_at l k).above) cut late)

-- and the first ones are counted among those up to the second cut
pub late_both : (text : List ℕ) (one other : List Row) (start end from to : ℕ) (places : List Place) (is : IsAgain text one other start end) → start ≤ end → end ≤ length other → places ≡ standing text one
    → to ≤ length places → ((k : ℕ) → to ≤ k → k < length places → end ≤ (place_at places k).above)
    → from ≤ to → (0 < from → (place_at places (from - 1)).above < start) → ((k : ℕ) → from ≤ k → k < to → start ≤ (place_at places k).above) → from ≡ length is.front
late_both text one other start end from to places is below high was within late order early' late' =
    late_first text one other start end from places is below high was (omega (arith, order, within)) early'
    (λ k at lt. elim (cases_lt k to) [ inl inside ↦ late' k at inside | inr behind ↦ omega (arith, late k behind lt, below) ])

-- what is left when the second part was taken out, put behind the others and turned
pub put_again : (front was rest new places left pushed turned : List Place) (kept behind count : ℕ) → places ≡ front ++ (was ++ rest) → kept ≡ length front → behind ≡ length (front ++ was)
    → left ≡ take kept places ++ drop behind places → count ≡ length left - kept → pushed ≡ left ++ new
    → turned ≡ take kept pushed ++ (drop count (drop kept pushed) ++ take count (drop kept pushed)) → turned ≡ front ++ (new ++ rest)
put_again front was rest new places left pushed turned kept behind count is cut cut' leaves number more turns =
    let fore : take kept places ≡ front = ap (take kept) is ∙ take_at front (was ++ rest) kept (sym cut) in
    let past : drop behind places ≡ rest = ap (drop behind) (is ∙ sym (append_assoc front was rest)) ∙ drop_at (front ++ was) rest behind (sym cut') in
    let left_is : left ≡ front ++ rest = leaves ∙ ap₂ (λ a b. a ++ b) fore past in
    let pushed_is : pushed ≡ front ++ (rest ++ new) = more ∙ ap (λ l. l ++ new) left_is ∙ append_assoc front rest new in
    let many : count ≡ length rest = omega (arith, number, ap length left_is, length-append front rest, cut) in
    let first : take kept pushed ≡ front = ap (take kept) pushed_is ∙ take_at front (rest ++ new) kept (sym cut) in
    let second : drop kept pushed ≡ rest ++ new = ap (drop kept) pushed_is ∙ drop_at front (rest ++ new) kept (sym cut) in
    turns ∙ ap₂ (λ a b. a ++ (drop count b ++ take count b)) first second
    ∙ ap₂ (λ a b. front ++ (a ++ b)) (drop_at rest new count (sym many)) (take_at rest new count (sym many))
