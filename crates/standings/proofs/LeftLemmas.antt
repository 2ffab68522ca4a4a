-- Left parts with which a row begins, and what is kept for each by its length.
use Rattle.std.proofs.Common.{◌≡◌, ◌≢◌, ℕ, ◌+◌, ◌<◌, ◌≤◌, false, true, List, ◌++◌, drop, get_or, length, nat_eq, set, take, cond, refl, ap, ap₂, sym, ◌∙◌, arith, inl, inr}
use Rattle.std.specs.Cmp.Lexicographic.{pointwise}
use Rattle.std.specs.List.{starts_with}
use Rattle.std.proofs.lemmas.Bool.{cases_Bool, false≢true}
use Rattle.std.proofs.lemmas.Bool.Decides.{Decides-eqb}
use Rattle.std.proofs.lemmas.List.{drop-take, get_or-set_other, get_or-set_same, get_or-take, length-take, take-append-drop, take-take, take_min}
use Rattle.std.proofs.lemmas.Slice.Eq.{slice_eq-Decides}
use Rattle.standings.specs.Less.{Agree, for_left}
use Rattle.standings.specs.Rows.{Row, row_below}
use Rattle.standings.specs.Standing.{left_of, place_at}
use Rattle.standings.specs.declared.place.Place.{Place}

-- ---- a row begins with as many of its characters

pub front_is : (row left : List ℕ) → starts_with nat_eq row left ≡ true → left ≡ take (length left) row
front_is row left = (slice_eq-Decides Decides-eqb left (take (length left) row) (starts_with nat_eq row left) refl).0

pub is_front : (row left : List ℕ) → left ≡ take (length left) row → starts_with nat_eq row left ≡ true
is_front row left = (slice_eq-Decides Decides-eqb left (take (length left) row) (starts_with nat_eq row left) refl).1

pub same_left : (here left : List ℕ) → pointwise nat_eq here left ≡ true → here ≡ left
same_left here left = (slice_eq-Decides Decides-eqb here left (pointwise nat_eq here left) refl).0

pub left_same : (here left : List ℕ) → here ≡ left → pointwise nat_eq here left ≡ true
left_same here left = (slice_eq-Decides Decides-eqb here left (pointwise nat_eq here left) refl).1

pub front_fits : (row left : List ℕ) → starts_with nat_eq row left ≡ true → length left ≤ length row
front_fits row left begins = omega (arith, ap length (front_is row left begins), length-take (length left) row)

-- a row's own
pub own_front : (row : List ℕ) (n : ℕ) → starts_with nat_eq row (take n row) ≡ true
own_front row n = is_front row (take n row) (sym (ap (λ k. take k row) (length-take n row) ∙ take_min n row))

-- that of a place in the row in which one of these stands, and the next ones up to another
pub row_front : (rows : List Row) (places : List Place) (from to : ℕ) (row : List ℕ) → row ≡ (row_below rows (place_at places from).above).characters
    → ((k : ℕ) → from ≤ k → k < to → (place_at places k).above ≡ (place_at places from).above)
    → (n : ℕ) (left : List ℕ) → from ≤ n → n < to → left ≡ left_of rows (place_at places n) → starts_with nat_eq row left ≡ true
row_front rows places from to row is above n left low high same =
    let place = place_at places n in
    let here : row ≡ (row_below rows place.above).characters = is ∙ ap (λ k. (row_below rows k).characters) (sym (above n low high)) in
    ap₂ (starts_with nat_eq) here same ∙ own_front (row_below rows place.above).characters place.before

-- ---- rows that begin alike

pub front_agreed : (row other : List ℕ) (count n : ℕ) → Agree row other count → length (take n other) ≤ count → starts_with nat_eq row (take n other) ≡ true
front_agreed row other count n agree le =
    let m = length (take n other) in
    is_front row (take n other)
    (sym (take_min n other) ∙ ap (λ k. take k other) (sym (length-take n other))
    ∙ sym (take-take m count other le) ∙ ap (take m) (sym agree.same) ∙ take-take m count row le)

-- as far as they do, they have the same to the left
pub same_fronts : (row other : List ℕ) (count n : ℕ) → Agree row other count → n ≤ count → take n row ≡ take n other
same_fronts row other count n agree le = sym (take-take n count row le) ∙ ap (take n) agree.same ∙ take-take n count other le

pub no_front : (row other : List ℕ) (count n : ℕ) → Agree row other count → count < length (take n other) → starts_with nat_eq row (take n other) ≡ false
no_front row other count n agree lt = elim (cases_Bool (starts_with nat_eq row (take n other))) [
  | inr f ↦ f
  | inl t ↦
      let left = take n other in
      let m = length left in
      let is = front_is row left t in
      let fits = front_fits row left t in
      let within : (count < n) × (count < length other) = (omega (arith, lt, length-take n other), omega (arith, lt, length-take n other)) in
      absurd (agree.ends (omega arith) within.1
      (sym (get_or-take m row count 0 lt) ∙ ap (λ l. get_or l count 0) (sym is) ∙ get_or-take n other count 0 within.0))
]

-- ---- what is kept for a left part

-- another one
pub other_left : (row here left : List ℕ) → starts_with nat_eq row here ≡ false → starts_with nat_eq row left ≡ true → pointwise nat_eq here left ≡ false
other_left row here left fails holds = elim (cases_Bool (pointwise nat_eq here left)) [
  | inr f ↦ f
  | inl t ↦ absurd (false≢true (sym fails ∙ ap (starts_with nat_eq row) (same_left here left t) ∙ holds))
]

-- it changes for this left part alone
pub for_set : (row counts : List ℕ) (len value : ℕ) (f : ℕ → ℕ) (here left : List ℕ) → len < length counts → len ≡ length here
    → starts_with nat_eq row here ≡ true → starts_with nat_eq row left ≡ true → value ≡ f (get_or counts len 0)
    → for_left (set counts len value) left ≡ cond (pointwise nat_eq here left) (f (for_left counts left)) (for_left counts left)
for_set row counts len value f here left lt many begins begins' is = elim (cases_Bool (pointwise nat_eq here left)) [
  | inl t ↦
      let at : length left ≡ len = sym (many ∙ ap length (same_left here left t)) in
      rw t (ap (λ n. get_or (set counts len value) n 0) at ∙ get_or-set_same counts len value 0 lt ∙ is ∙ ap (λ n. f (get_or counts n 0)) (sym at))
  | inr f' ↦
      let apart : length left ≢ len = λ at. false≢true (sym f' ∙ left_same here left
      (front_is row here begins ∙ ap (λ n. take n row) (sym (at ∙ many)) ∙ sym (front_is row left begins'))) in
      rw f' (get_or-set_other counts len (length left) value 0 apart)
]

-- ---- rows are compared further

parts : (xs : List ℕ) (n k : ℕ) → take (n + k) xs ≡ take n xs ++ take k (drop n xs)
parts xs n k =
    sym (take-append-drop n (take (n + k) xs))
    ∙ ap₂ (λ a b. a ++ b) (take-take n (n + k) xs (omega arith)) (drop-take n k xs)

pub block_more : (one other : List ℕ) (n k : ℕ) → take n one ≡ take n other
    → pointwise nat_eq (take k (drop n one)) (take k (drop n other)) ≡ true → take (n + k) one ≡ take (n + k) other
block_more one other n k same block =
    parts one n k ∙ ap₂ (λ a b. a ++ b) same (same_left (take k (drop n one)) (take k (drop n other)) block) ∙ sym (parts other n k)
