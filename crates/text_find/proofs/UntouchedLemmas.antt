-- Rows that differ where those before them stayed since a chunk began.
use Rattle.std.proofs.Common.{◌≡◌, ◌⊎◌, ℕ, zero, suc, false, ◌+◌, ◌<◌, ◌≤◌, Bool, ◌&&◌, cond, List, [], ◌∷◌, ◌++◌, append-nil, drop, filter, length, map, nat_eq, take, refl, ap, ap₂, subst, sym, ◌∙◌, arith, inl, inr}
use Rattle.std.specs.Cmp.Lexicographic.{pointwise}
use Rattle.std.specs.List.{range_with_len}
use Rattle.std.proofs.lemmas.Bool.{cases_Bool, cases_lt, eqb-true, leb-true}
use Rattle.std.proofs.lemmas.List.{drop_all, drop_more}
use Rattle.std.proofs.lemmas.List.Sums.{sum_by-append, sum_by-cons}
use Rattle.standings.specs.Lag.{Lags}
use Rattle.standings.specs.Less.{may_pass}
use Rattle.standings.specs.Moved.{turned}
use Rattle.standings.specs.Rows.{Row, empty_row, row_below}
use Rattle.standings.specs.Spans.{Stays}
use Rattle.standings.specs.Standing.{begins, count_left, is_less, is_lone, left_of, line_text, place_at, place_in, places_from, places_in, standing}
use Rattle.standings.specs.declared.lag.Lag.{Lag}
use Rattle.standings.specs.declared.place.Place.{Place}
use Rattle.standings.specs.declared.span.Span.{Span}
use Rattle.standings.proofs.SpanLemmas.{places_of, places_stay}
use Rattle.text_find.proofs.LineLemmas.{fewer_before, pointwise_same}

-- what stands on a third screen too doesn't pass
lone_not : (first : List Row) (firsts : List Place) (left : List ℕ) → 0 < count_left first firsts left → is_lone first firsts left ≡ false
lone_not first firsts left some = elim (cases_Bool (is_lone first firsts left)) [
  | inl t ↦
      let none : count_left first firsts left ≡ 0 = eqb-true (count_left first firsts left) 0 t in
      absurd (omega (arith, some, none))
  | inr f ↦ f
]

both_not : (a b : Bool) → b ≡ false → (a && b) ≡ false
both_not a b none = elim (cases_Bool a) [
  | inl t ↦ rw (t, none) refl
  | inr f ↦ rw f refl
]

itself : (one : List Row) (places : List Place) (n : ℕ) → n < length places
    → count_left one (take n places) (left_of one (place_at places n)) < count_left one places (left_of one (place_at places n))
itself one places n lt =
    let left = left_of one (place_at places n) in
    fewer_before (λ place. pointwise nat_eq (left_of one place) left) places n lt (pointwise_same left)

-- as where no row changed since
pub none_touched : (text : List ℕ) (first one other : List Row) (n : ℕ) → first ≡ one → n < length (standing text one)
    → may_pass first (standing text first) one (standing text one) other (standing text other) n ≡ false
none_touched text first one other n same lt =
    let left = left_of one (place_at (standing text one) n) in
    let some = subst (λ rows. 0 < count_left rows (standing text rows) left) (sym same) (omega (arith, itself one (standing text one) n lt)) in
    both_not (is_less one (standing text one) other (standing text other) n) (is_lone first (standing text first) left) (lone_not first (standing text first) left some)

-- ---- row by row

count_mapped : (one other : List Row) (k : ℕ) (left : List ℕ) (ns : List ℕ) → row_below other k ≡ row_below one k
    → count_left other (map (place_in k) ns) left ≡ count_left one (map (place_in k) ns) left
count_mapped one other k left [] same = refl
count_mapped one other k left (n ∷ ns) same =
    let has = λ (rows : List Row) (p : Place). cond {A = ℕ} (pointwise nat_eq (left_of rows p) left) 1 0 in
    sum_by-cons (has other) (place_in k n) (map (place_in k) ns)
    ∙ ap₂ (λ a b. a + b) (ap {B = ℕ} (λ (row : Row). cond {A = ℕ} (pointwise nat_eq (take n row.characters) left) 1 0) same) (count_mapped one other k left ns same)
    ∙ sym (sum_by-cons (has one) (place_in k n) (map (place_in k) ns))

row_count : (text : List ℕ) (one other : List Row) (k : ℕ) (left : List ℕ) → row_below other k ≡ row_below one k → places_of text other k ≡ places_of text one k
    → count_left other (places_of text other k) left ≡ count_left one (places_of text one k) left
row_count text one other k left same places =
    ap (λ ps. count_left other ps left) places
    ∙ count_mapped one other k left (filter (begins text (line_text (drop k one))) (range_with_len 0 (length (row_below one k).characters))) same

row_first : (text : List ℕ) (rows : List Row) (k : ℕ) (left : List ℕ) → k < length rows
    → count_left rows (places_from text k (drop k rows)) left ≡ count_left rows (places_of text rows k) left + count_left rows (places_from text (k + 1) (drop (k + 1) rows)) left
unfolding places_from
row_first text rows k left lt =
    let cut = drop_more rows k empty_row lt in
    let line = length (row_below rows k).characters in
    let rest = places_from text (k + 1) (drop (k + 1) rows) in
    ap (λ l. count_left rows (places_from text k l) left) cut
    ∙ ap (λ l. count_left rows (places_in text k (line_text l) line ++ rest) left) (sym cut)
    ∙ sum_by-append (λ (place : Place). cond (pointwise nat_eq (left_of rows place) left) 1 0) (places_of text rows k) rest

-- of each left part as many as are on the other two screens together, if it is so in each row
fewer_in : (text left : List ℕ) (first one other : List Row) (n k : ℕ) → k + n ≡ length one → length first ≡ length one → length other ≡ length one
    → ((i : ℕ) → i < length one → count_left one (places_of text one i) left ≤ count_left other (places_of text other i) left + count_left first (places_of text first i) left)
    → count_left one (places_from text k (drop k one)) left
    ≤ count_left other (places_from text k (drop k other)) left + count_left first (places_from text k (drop k first)) left
unfolding places_from
fewer_in text left first one other zero k all long long' each =
    let none : count_left one (places_from text k (drop k one)) left ≡ 0 = ap (λ l. count_left one (places_from text k l) left) (drop_all k one (omega (arith, all))) in
    omega (arith, none)
fewer_in text left first one other (suc n) k all long long' each =
    omega (
      arith,
      row_first text one k left (omega (arith, all)),
      row_first text other k left (omega (arith, all, long')),
      row_first text first k left (omega (arith, all, long)),
      each k (omega (arith, all)),
      fewer_in text left first one other n (k + 1) (omega (arith, all)) long long' each,
    )

still : (lag : Lag) (one other : List Row) → lag.moved ≡ 0 → Lags lag one other → Stays lag.span one other
still lag one other none lags = subst (λ rows. Stays lag.span rows other) (ap (λ n. turned n one) none ∙ append-nil one) lags

-- the places of a row that isn't among those that differ, of a text of one character
row_stays : (text left : List ℕ) (span : Span) (one other : List Row) (k : ℕ) → length text ≤ 1 → Stays span one other → k < length other → (k < span.from) ⊎ (span.to ≤ k)
    → count_left other (places_of text other k) left ≡ count_left one (places_of text one k) left
row_stays text left span one other k short stays lt (inl above) =
    row_count text one other k left (stays.above k above) (places_stay text span span.from one other k stays (omega arith) (λ some runs. omega (arith, short)) lt (inl above))
row_stays text left span one other k short stays lt (inr below) =
    row_count text one other k left (stays.below k below) (places_stay text span span.from one other k stays (omega arith) (λ some runs. omega (arith, short)) lt (inr below))

-- where the rows that differ are others than those that did since, a place that goes is in a row that stayed
pub others_touched : (text : List ℕ) (since lag : Lag) (first one other : List Row) (n : ℕ) → length text ≤ 1 → since.moved ≡ 0 → lag.moved ≡ 0
    → (lag.span.from < since.span.to → lag.span.to ≤ since.span.from) → Lags since first one → Lags lag one other → n < length (standing text one)
    → may_pass first (standing text first) one (standing text one) other (standing text other) n ≡ false
others_touched text since lag first one other n short unmoved unmoved' apart lagged lags lt =
    let places = standing text one in
    let left = left_of one (place_at places n) in
    let was = still since first one unmoved lagged in
    let stays = still lag one other unmoved' lags in
    let kept : (i : ℕ) → i < length one → (i < lag.span.from) ⊎ (lag.span.to ≤ i)
    → count_left one (places_of text one i) left ≤ count_left other (places_of text other i) left + count_left first (places_of text first i) left =
    λ i inside side. omega (arith, row_stays text left lag.span one other i short stays (omega (arith, inside, stays.count)) side) in
    let stood : (i : ℕ) → i < length one → (i < since.span.from) ⊎ (since.span.to ≤ i)
    → count_left one (places_of text one i) left ≤ count_left other (places_of text other i) left + count_left first (places_of text first i) left =
    λ i inside side. omega (arith, row_stays text left since.span first one i short was inside side) in
    let all : count_left one places left ≤ count_left other (standing text other) left + count_left first (standing text first) left =
    fewer_in text left first one other (length one) 0 (omega arith) (sym was.count) stays.count (λ i inside. elim (cases_lt i lag.span.from) [
      | inl above ↦ kept i inside (inl above)
      | inr from ↦ elim (cases_lt i lag.span.to) [
        | inr below ↦ kept i inside (inr below)
        | inl within ↦ elim (cases_lt i since.span.to) [
          | inl there ↦ stood i inside (inl (omega (arith, within, apart (omega (arith, from, there)))))
          | inr behind ↦ stood i inside (inr behind)
        ]
      ]
    ]) in
    elim (cases_Bool (is_less one places other (standing text other) n)) [
      | inr f ↦ rw f refl
      | inl t ↦
          let fewer : count_left other (standing text other) left ≤ count_left one (take n places) left = leb-true (count_left other (standing text other) left) (count_left one (take n places) left) t in
          both_not (is_less one places other (standing text other) n) (is_lone first (standing text first) left)
          (lone_not first (standing text first) left (omega (arith, all, fewer, itself one places n lt)))
    ]
