-- Rows of which only some differ.
use Rattle.std.proofs.Common.{Bool, true, take, nat_eq, ◌≡◌, ◌≢◌, ◌⊎◌, ℕ, zero, suc, ◌+◌, ◌-◌, ◌<◌, ◌≤◌, false, List, [], ◌∷◌, ◌++◌, append_assoc, cond, drop, length, nat_le, refl, ap, sym, ◌∙◌, arith, inl, inr, subst}
use Rattle.std.proofs.lemmas.Bool.{cases_Bool, cases_lt, leb-true}
use Rattle.std.specs.Cmp.Lexicographic.{pointwise}
use Rattle.std.specs.List.{starts_with}
use Rattle.std.proofs.lemmas.List.{drop-append-le, drop-drop, drop-take, drop_all, ext_get_or, get_or_past, length-drop, length-take, take-append-drop}
use Rattle.standings.specs.declared.place.Place.{Place}
use Rattle.standings.specs.declared.span.Span.{Span}
use Rattle.standings.specs.Near.{places_part}
use Rattle.standings.specs.Rows.{Row, empty_row, row_below}
use Rattle.standings.specs.Spans.{Stays, characters_in, joined, widened}
use Rattle.standings.specs.Standing.{begins, line_text, place_in, places_from, places_in, standing}
use Rattle.standings.proofs.RowLemmas.{part_first, part_parts, places_more, places_row, rows_at}

-- ---- rows that are the same

pub same_rows : (one other : List Row) → length other ≡ length one → ((k : ℕ) → k < length one → row_below other k ≡ row_below one k) → other ≡ one
same_rows one other count same = ext_get_or empty_row other one count (λ k lt. same k (omega arith))

-- where no row differs, all are the same
pub stays_none : (span : Span) (one other : List Row) → span.to ≤ span.from → Stays span one other → other ≡ one
stays_none span one other none stays = same_rows one other stays.count (λ k lt. elim (cases_lt k span.from) [
  | inl low ↦ stays.above k low
  | inr high ↦ stays.below k (omega arith)
])

-- a row more may differ
pub stays_more : (span : Span) (above : ℕ) (one other more : List Row) → Stays span one other → length more ≡ length other
    → ((k : ℕ) → k ≢ above → row_below more k ≡ row_below other k) → Stays (widened span above) one more
unfolding widened
stays_more span above one other more stays count same = elim (cases_Bool (nat_le span.to span.from)) [
  | inl none ↦
      let is = stays_none span one other (leb-true span.to span.from none) stays in
      rw none (record {
        count = count ∙ ap length is;
        above = λ k lt. same k (omega arith) ∙ ap (λ rows. row_below rows k) is;
        below = λ k ge. same k (omega arith) ∙ ap (λ rows. row_below rows k) is;
      })
  | inr some ↦
      rw some (record {
        count = count ∙ stays.count;
        above = λ k lt. same k (omega arith) ∙ stays.above k (omega arith);
        below = λ k ge. same k (omega arith) ∙ stays.below k (omega arith);
      })
]

pub widened_end : (span : Span) (above : ℕ) → span.to ≤ above → (widened span above).to ≡ above + 1
unfolding widened
widened_end span above high = elim (cases_Bool (nat_le span.to span.from)) [
  | inl none ↦ rw none refl
  | inr some ↦ rw some (omega arith)
]

-- rows differ from others, and those from further ones
pub stays_both : (span more : Span) (one other another : List Row) → Stays span one other → Stays more other another → Stays (joined span more) one another
unfolding joined
stays_both span more one other another stays also = elim (cases_Bool (nat_le span.to span.from)) [
  | inl none ↦ rw none (subst (λ rows. Stays more rows another) (stays_none span one other (leb-true span.to span.from none) stays) also)
  | inr some ↦ elim (cases_Bool (nat_le more.to more.from)) [
    | inl none ↦
        rw (some, none) (subst (Stays span one) (sym (stays_none more other another (leb-true more.to more.from none) also)) stays)
    | inr many ↦
        rw (some, many) (record {
          count = also.count ∙ stays.count;
          above = λ k lt. also.above k (omega arith) ∙ stays.above k (omega arith);
          below = λ k ge. also.below k (omega arith) ∙ stays.below k (omega arith);
        })
  ]
]

-- where no row was changed yet, all are as they were
pub stays_all : (rows : List Row) (span : Span) → Stays span rows rows
stays_all rows span = record { count = refl; above = λ k lt. refl; below = λ k ge. refl }

-- what differs from others, they differ from
pub stays_back : (span : Span) (one other : List Row) → Stays span one other → Stays span other one
stays_back span one other stays = record {
  count = sym stays.count;
  above = λ k lt. sym (stays.above k lt);
  below = λ k ge. sym (stays.below k ge);
}

-- ---- lines

-- the line from a row on; past the last one none
pub line_at : (rows : List Row) (above : ℕ)
    → line_text (drop above rows) ≡ (row_below rows above).characters ++ cond (row_below rows above).runs_on (line_text (drop (above + 1) rows)) []
unfolding line_text
line_at rows above = elim (cases_lt above (length rows)) [
  | inl lt ↦ ap line_text (rows_at rows above lt)
  | inr past ↦
      let none : row_below rows above ≡ empty_row = get_or_past rows above empty_row past in
      ap line_text (drop_all above rows past) ∙ sym (ap (λ (row : Row). row.characters ++ cond row.runs_on (line_text (drop (above + 1) rows)) []) none)
]

pub line_step : (one other : List Row) (above : ℕ) → row_below other above ≡ row_below one above
    → cond (row_below one above).runs_on (line_text (drop (above + 1) other)) [] ≡ cond (row_below one above).runs_on (line_text (drop (above + 1) one)) []
    → line_text (drop above other) ≡ line_text (drop above one)
line_step one other above same more =
    line_at other above ∙ ap (λ (row : Row). row.characters ++ cond row.runs_on (line_text (drop (above + 1) other)) []) same
    ∙ ap (λ l. (row_below one above).characters ++ l) more ∙ sym (line_at one above)

-- above a row that doesn't run on
pub line_above : (one other : List Row) (start n above : ℕ) → start ≡ above + suc n → ((k : ℕ) → k < start → row_below other k ≡ row_below one k)
    → (row_below one (start - 1)).runs_on ≡ false → line_text (drop above other) ≡ line_text (drop above one)
line_above one other start zero above is same ends =
    let last : start - 1 ≡ above = omega arith in
    let here : (row_below one above).runs_on ≡ false = ap (λ k. (row_below one k).runs_on) (sym last) ∙ ends in
    line_step one other above (same above (omega arith)) (rw here refl)
line_above one other start (suc n) above is same ends =
    line_step one other above (same above (omega arith))
    (ap (λ l. cond (row_below one above).runs_on l []) (line_above one other start n (above + 1) (omega arith) same ends))

-- from a row on behind which all are the same
pub line_below : (one other : List Row) (n above : ℕ) → length one ≤ above + n → length other ≡ length one → ((k : ℕ) → above ≤ k → row_below other k ≡ row_below one k)
    → line_text (drop above other) ≡ line_text (drop above one)
line_below one other zero above past count same =
    ap line_text (drop_all above other (omega arith) ∙ sym (drop_all above one (omega arith)))
line_below one other (suc n) above past count same =
    line_step one other above (same above (omega arith))
    (ap (λ l. cond (row_below one above).runs_on l []) (line_below one other n (above + 1) (omega arith) count (λ k low. same k (omega arith))))

-- ---- the fronts of lines

take_behind : (part one other : List ℕ) (m : ℕ) → take (m - length part) other ≡ take (m - length part) one → take m (part ++ other) ≡ take m (part ++ one)
take_behind [] one other m same =
    let all : m - 0 ≡ m = omega arith in
    subst (λ n. take n other ≡ take n one) all same
take_behind (x ∷ part) one other zero same = refl
take_behind (x ∷ part) one other (suc m) same =
    let rest : suc m - suc (length part) ≡ m - length part = omega arith in
    ap (λ l. x ∷ l) (take_behind part one other m (subst (λ n. take n other ≡ take n one) rest same))

cond_front : (runs : Bool) (one other : List ℕ) (m : ℕ) → take m other ≡ take m one → take m (cond runs other []) ≡ take m (cond runs one [])
cond_front true one other m same = same
cond_front false one other m same = refl

-- as far as the rows that are the same go
line_front : (one other : List Row) (above : ℕ) → ((i : ℕ) → i < above → row_below other i ≡ row_below one i) → (n k m : ℕ) → k + n ≡ above → m ≤ characters_in one k n
    → take m (line_text (drop k other)) ≡ take m (line_text (drop k one))
line_front one other above same zero k m is few =
    let none : m ≡ 0 = omega arith in
    ap (λ n. take n (line_text (drop k other))) none ∙ sym (ap (λ n. take n (line_text (drop k one))) none)
line_front one other above same (suc n) k m is few =
    let row = row_below one k in
    ap (take m) (line_at other k ∙ ap (λ (r : Row). r.characters ++ cond r.runs_on (line_text (drop (k + 1) other)) []) (same k (omega arith)))
    ∙ take_behind row.characters (cond row.runs_on (line_text (drop (k + 1) one)) []) (cond row.runs_on (line_text (drop (k + 1) other)) []) m
    (cond_front row.runs_on (line_text (drop (k + 1) one)) (line_text (drop (k + 1) other)) (m - length row.characters)
    (line_front one other above same n (k + 1) (m - length row.characters) (omega arith) (omega arith)))
    ∙ ap (take m) (sym (line_at one k))

-- where a text begins is told by as much of the line
begins_by_front : (text one other : List ℕ) (before : ℕ) → take (before + length text) other ≡ take (before + length text) one → begins text other before ≡ begins text one before
begins_by_front text one other before same =
    ap (pointwise nat_eq text) (sym (drop-take before (length text) other) ∙ ap (drop before) same ∙ drop-take before (length text) one)

reaches_further : (rows : List Row) (n m k : ℕ) → characters_in rows (k + m) n ≤ characters_in rows k (m + n)
reaches_further rows n zero k =
    let here : k + 0 ≡ k = omega arith in
    let all : 0 + n ≡ n = omega arith in
    rw (here, all) (omega arith)
reaches_further rows n (suc m) k =
    let there : k + 1 + m ≡ k + suc m = omega arith in
    let more : suc (m + n) ≡ suc m + n = omega arith in
    let rest = reaches_further rows n m (k + 1) in
    rw (← there, ← more) (omega (arith, rest))

-- from a row on above those whose characters are as many as the text's but one
begins_above : (text : List ℕ) (one other : List Row) (start above k before : ℕ) → k < start → start ≤ above → ((i : ℕ) → i < above → row_below other i ≡ row_below one i)
    → length text ≤ characters_in one start (above - start) + 1 → before < length (row_below one k).characters
    → begins text (line_text (drop k other)) before ≡ begins text (line_text (drop k one)) before
begins_above text one other start above k before low within same long lt =
    let m = start - (k + 1) in
    let n = above - start in
    let there : k + 1 + m ≡ start = omega arith in
    let reach = subst (λ i. characters_in one i n ≤ characters_in one (k + 1) (m + n)) there (reaches_further one n m (k + 1)) in
    begins_by_front text (line_text (drop k one)) (line_text (drop k other)) before
    (line_front one other above same (suc (m + n)) k (before + length text) (omega arith) (omega (arith, reach)))

-- ---- places

-- those of one row
abbrev pub places_of : List ℕ → List Row → ℕ → List Place
places_of text rows above = places_in text above (line_text (drop above rows)) (length (row_below rows above).characters)

pub first_none : (a b : List Place) → a ++ b ≡ [] → a ≡ []
first_none [] b h = refl
first_none (x ∷ a) b h = cc

pub second_none : (a b : List Place) → a ++ b ≡ [] → b ≡ []
second_none [] b h = h
second_none (x ∷ a) b h = cc

pub all_none : (text : List ℕ) (rows : List Row) (n above : ℕ) → length rows ≤ above + n → ((k : ℕ) → above ≤ k → k < length rows → places_of text rows k ≡ [])
    → places_from text above (drop above rows) ≡ []
unfolding places_from
all_none text rows zero above past none = ap (places_from text above) (drop_all above rows (omega arith))
all_none text rows (suc n) above past none = elim (cases_lt above (length rows)) [
  | inl lt ↦
      places_row text rows above lt ∙ ap (λ l. l ++ places_from text (above + 1) (drop (above + 1) rows)) (none above (omega arith) lt)
      ∙ all_none text rows n (above + 1) (omega arith) (λ k low high. none k (omega arith) high)
  | inr high ↦ ap (places_from text above) (drop_all above rows high)
]

pub none_at : (text : List ℕ) (rows : List Row) (n above : ℕ) → above + n < length rows → places_from text above (drop above rows) ≡ [] → places_of text rows (above + n) ≡ []
none_at text rows zero above lt none =
    let here : above ≡ above + 0 = omega arith in
    ap (places_of text rows) (sym here) ∙ first_none (places_of text rows above) (places_from text (above + 1) (drop (above + 1) rows)) (sym (places_row text rows above (omega arith)) ∙ none)
none_at text rows (suc n) above lt none =
    let next : above + suc n ≡ above + 1 + n = omega arith in
    ap (places_of text rows) next
    ∙ none_at text rows n (above + 1) (omega arith) (second_none (places_of text rows above) (places_from text (above + 1) (drop (above + 1) rows)) (sym (places_row text rows above (omega arith)) ∙ none))

-- where a text begins at none of so many characters
pub none_before : (text : List ℕ) (above : ℕ) (line : List ℕ) (count i : ℕ) → places_in text above line count ≡ [] → i < count → begins text line i ≡ false
none_before text above line zero i none lt = absurd (omega arith)
none_before text above line (suc n) i none lt =
    let next : n + 1 ≡ suc n = omega arith in
    let here = begins text line n in
    let parts = sym (places_more text above line n here refl) ∙ ap (places_in text above line) next ∙ none in
    elim (cases_lt i n) [
      | inl low ↦ none_before text above line n i (first_none (places_in text above line n) (cond here (place_in above n ∷ []) []) parts) low
      | inr high ↦
          let last : i ≡ n = omega arith in
          elim (cases_Bool here) [
            | inr f ↦ ap (begins text line) last ∙ f
            | inl t ↦
                let one = second_none (places_in text above line n) (cond here (place_in above n ∷ []) []) parts in
                let some : place_in above n ∷ [] ≡ [] = ap (λ b. cond b (place_in above n ∷ []) []) (sym t) ∙ one in
                cc
          ]
    ]

-- and the other way round
pub part_none : (text : List ℕ) (above : ℕ) (line : List ℕ) (n from : ℕ) → ((i : ℕ) → from ≤ i → i < from + n → begins text line i ≡ false) → places_part text above line from n ≡ []
part_none text above line zero from none = refl
part_none text above line (suc n) from none =
    part_first text above line from n false (sym (none from (omega arith) (omega arith)))
    ∙ part_none text above line n (from + 1) (λ i low lt. none i (omega arith) (omega arith))

pub all_before : (text : List ℕ) (above : ℕ) (line : List ℕ) (count : ℕ) → ((i : ℕ) → i < count → begins text line i ≡ false) → places_in text above line count ≡ []
all_before text above line count none = part_none text above line count 0 (λ i _ lt. none i (omega arith))

-- where it begins at none of those between two parts
pub part_over : (text : List ℕ) (above : ℕ) (line : List ℕ) (start from next last : ℕ) → start ≤ from → from ≤ next → next ≤ last → ((i : ℕ) → from ≤ i → i < next → begins text line i ≡ false)
    → places_part text above line start (last - start) ≡ places_part text above line start (from - start) ++ places_part text above line next (last - next)
part_over text above line start from next last low high end none =
    let a = from - start in
    let b = next - from in
    let d = last - next in
    let all : last - start ≡ a + (b + d) = omega arith in
    let there : start + a ≡ from = omega arith in
    let further : from + b ≡ next = omega arith in
    ap (places_part text above line start) all ∙ part_parts text above line a (b + d) start
    ∙ ap (λ l. places_part text above line start a ++ l)
    (ap (λ k. places_part text above line k (b + d)) there ∙ part_parts text above line b d from
    ∙ ap (λ l. l ++ places_part text above line (from + b) d) (part_none text above line b from (λ i ge lt. none i ge (omega arith)))
    ∙ ap (λ k. places_part text above line k d) further)

-- where it doesn't begin at a character of a row, whatever comes behind it
pub never_here : (text : List ℕ) (rows : List Row) (above i : ℕ) → i < length (row_below rows above).characters
    → ((rest : List ℕ) → starts_with nat_eq (drop i (row_below rows above).characters ++ rest) text ≡ false) → begins text (line_text (drop above rows)) i ≡ false
never_here text rows above i lt none =
    let row = row_below rows above in
    let more = cond row.runs_on (line_text (drop (above + 1) rows)) [] in
    ap (λ l. begins text l i) (line_at rows above) ∙ ap (λ l. starts_with nat_eq l text) (drop-append-le i row.characters more (omega arith)) ∙ none more

-- where it begins at none of a row's, whatever comes behind them
pub none_here : (text : List ℕ) (rows : List Row) (above : ℕ)
    → ((before : ℕ) → before < length (row_below rows above).characters → (rest : List ℕ) → starts_with nat_eq (drop before (row_below rows above).characters ++ rest) text ≡ false)
    → places_of text rows above ≡ []
none_here text rows above none =
    all_before text above (line_text (drop above rows)) (length (row_below rows above).characters) (λ i lt. never_here text rows above i lt (none i lt))

-- and where it begins at none of some of the first ones of them
pub none_in_front : (characters text : List ℕ) (n from m : ℕ) → m ≤ length (take n characters)
    → ((k : ℕ) → from ≤ k → k < m → (rest : List ℕ) → starts_with nat_eq (drop k (take n characters) ++ rest) text ≡ false)
    → (k : ℕ) → from ≤ k → k < m → (rest : List ℕ) → starts_with nat_eq (drop k characters ++ rest) text ≡ false
none_in_front characters text n from m fits none k low lt rest =
    ap (λ l. starts_with nat_eq (l ++ rest) text)
    (ap (drop k) (sym (take-append-drop n characters)) ∙ drop-append-le k (take n characters) (drop n characters) (omega arith))
    ∙ ap (λ l. starts_with nat_eq l text) (append_assoc (drop k (take n characters)) (drop n characters) rest)
    ∙ none k low lt (drop n characters ++ rest)

-- or of the first ones of a part of them
pub none_in_part : (characters text : List ℕ) (from n m : ℕ) → m ≤ length (take n (drop from characters))
    → ((k : ℕ) → k < m → (rest : List ℕ) → starts_with nat_eq (drop k (take n (drop from characters)) ++ rest) text ≡ false)
    → (before : ℕ) → from ≤ before → before < from + m → (rest : List ℕ) → starts_with nat_eq (drop before characters ++ rest) text ≡ false
none_in_part characters text from n m fits none before low high rest =
    let k = before - from in
    let here : from + k ≡ before = omega arith in
    ap (λ i. starts_with nat_eq (drop i characters ++ rest) text) (sym here)
    ∙ ap (λ l. starts_with nat_eq (l ++ rest) text) (sym (drop-drop k from characters))
    ∙ none_in_front (drop from characters) text n 0 m fits (λ j _ lt. none j lt) k (omega arith) (omega arith) rest

-- and at none of those that were passed before it
pub none_further : (characters text : List ℕ) (start from n m : ℕ) → m ≤ n → from + n ≤ length characters
    → ((before : ℕ) → start ≤ before → before < from → (rest : List ℕ) → starts_with nat_eq (drop before characters ++ rest) text ≡ false)
    → ((k : ℕ) → k < m → (rest : List ℕ) → starts_with nat_eq (drop k (take n (drop from characters)) ++ rest) text ≡ false)
    → (before : ℕ) → start ≤ before → before < from + m → (rest : List ℕ) → starts_with nat_eq (drop before characters ++ rest) text ≡ false
none_further characters text start from n m fits within passed none before low high rest = elim (cases_lt before from) [
  | inl lt ↦ passed before low lt rest
  | inr ge ↦
      none_in_part characters text from n m (omega (arith, length-take n (drop from characters), length-drop from characters)) none before ge high rest
]

-- a row and its line give its places
pub places_same : (text : List ℕ) (one other : List Row) (above : ℕ) → row_below other above ≡ row_below one above → line_text (drop above other) ≡ line_text (drop above one)
    → places_of text other above ≡ places_of text one above
places_same text one other above row line =
    ap (λ l. places_in text above l (length (row_below other above).characters)) line
    ∙ ap (λ (r : Row). places_in text above (line_text (drop above one)) (length r.characters)) row

-- where a text begins in a part of a row, by where it begins in a line
pub part_alike : (text : List ℕ) (above : ℕ) (line other : List ℕ) (n from : ℕ) → ((i : ℕ) → from ≤ i → i < from + n → begins text other i ≡ begins text line i)
    → places_part text above other from n ≡ places_part text above line from n
part_alike text above line other zero from same = refl
part_alike text above line other (suc n) from same =
    let here = begins text line from in
    part_first text above other from n here (sym (same from (omega arith) (omega arith)))
    ∙ ap (λ l. cond here (place_in above from ∷ []) [] ++ l) (part_alike text above line other n (from + 1) (λ i low lt. same i (omega arith) (omega arith)))
    ∙ sym (part_first text above line from n here refl)

-- the places of a row stay that is above those that differ and from which no text reaches them, or below them
pub places_stay : (text : List ℕ) (span : Span) (start : ℕ) (one other : List Row) (k : ℕ) → Stays span one other → start ≤ span.from
    → (0 < start → (row_below other (start - 1)).runs_on ≡ true → length text ≤ characters_in other start (span.from - start) + 1)
    → k < length other → (k < start) ⊎ (span.to ≤ k) → places_of text other k ≡ places_of text one k
places_stay text span start one other k stays low ends lt (inr below) =
    places_same text one other k (stays.below k below)
    (line_below one other (length one) k (omega arith) stays.count (λ i high. stays.below i (omega arith)))
places_stay text span start one other k stays low ends lt (inl above) = elim (cases_Bool (row_below other (start - 1)).runs_on) [
  | inr broken ↦
      let same : row_below other (start - 1) ≡ row_below one (start - 1) = stays.above (start - 1) (omega arith) in
      places_same text one other k (stays.above k (omega arith))
      (line_above one other start (start - k - 1) k (omega arith) (λ i lt'. stays.above i (omega arith)) (ap (λ (r : Row). r.runs_on) (sym same) ∙ broken))
  | inl runs ↦
      let row = stays.above k (omega arith) in
      part_alike text k (line_text (drop k one)) (line_text (drop k other)) (length (row_below other k).characters) 0
      (λ i _ fits. sym (begins_above text other one start span.from k i above low (λ j lt'. sym (stays.above j lt')) (ends (omega arith) runs) (omega arith)))
      ∙ ap (λ (r : Row). places_in text k (line_text (drop k one)) (length r.characters)) row
]

-- where a text stood nowhere, and begins in none of the rows that differ and in none from which it goes on in them, it stands nowhere
pub nothing_came : (text : List ℕ) (span : Span) (start : ℕ) (one other : List Row) → Stays span one other → start ≤ span.from
    → (0 < start → (row_below other (start - 1)).runs_on ≡ true → length text ≤ characters_in other start (span.from - start) + 1)
    → ((k : ℕ) → start ≤ k → k < span.to → k < length other → places_of text other k ≡ []) → standing text one ≡ [] → standing text other ≡ []
nothing_came text span start one other stays low ends none was =
    all_none text other (length other) 0 (omega arith) (λ k _ lt.
    let number : 0 + k ≡ k = omega arith in
    let before : places_of text one k ≡ [] = ap (places_of text one) (sym number) ∙ none_at text one k 0 (omega (arith, stays.count)) was in
    elim (cases_lt k start) [
      | inl above ↦ places_stay text span start one other k stays low ends lt (inl above) ∙ before
      | inr from ↦ elim (cases_lt k span.to) [
        | inl within ↦ none k from within lt
        | inr below ↦ places_stay text span start one other k stays low ends lt (inr below) ∙ before
      ]
    ])
