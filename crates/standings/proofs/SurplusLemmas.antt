-- What is kept for each left part with which a row begins, a place further.
use Rattle.std.proofs.Common.{◌≡◌, ℕ, suc, ◌+◌, ◌-◌, ◌*◌, ◌<◌, ◌≤◌, ◌&&◌, ◌||◌, Bool, false, true, List, drop, get_or, length, nat_eq, nat_le, set, take, cond, refl, ap, sym, ◌∙◌, arith, inl, inr}
use Rattle.std.specs.Cmp.Lexicographic.{pointwise}
use Rattle.std.specs.List.{starts_with}
use Rattle.std.proofs.Math.Nat.{mul-le-mul_left, mul-suc}
use Rattle.std.proofs.lemmas.Bool.{cases_Bool, cases_eq, cases_lt, false≢true, le-leb, lt-leb}
use Rattle.std.proofs.lemmas.List.{drop-drop, get_or-drop, get_or-set_other, get_or-set_same, get_or-take, get_or_past, length-take, take-take}
use Rattle.standings.specs.Less.{for_left, is_last}
use Rattle.standings.specs.Rows.{Row, empty_row, row_below}
use Rattle.standings.specs.Standing.{count_left, left_of, place_at}
use Rattle.standings.specs.declared.place.Place.{Place}
use Rattle.standings.proofs.CountLemmas.{count_rest, counted, counted_from, one_has}
use Rattle.standings.proofs.LeftLemmas.{for_set, front_fits, front_is, is_front, left_same, other_left, same_left}

-- ---- counted

pub count_more : (row counts : List ℕ) (rows : List Row) (places : List Place) (k len value : ℕ) (left : List ℕ) → k < length places → len < length counts
    → len ≡ length (left_of rows (place_at places k)) → starts_with nat_eq row (left_of rows (place_at places k)) ≡ true → starts_with nat_eq row left ≡ true
    → value ≡ get_or counts len 0 + 1 → for_left counts left ≡ count_left rows (take k places) left
    → for_left (set counts len value) left ≡ count_left rows (take (k + 1) places) left
count_more row counts rows places k len value left lt room many begins begins' is so_far =
    let here = left_of rows (place_at places k) in
    let step = for_set row counts len value (λ n. n + 1) here left room many begins begins' is in
    let one = counted rows places k left lt in
    elim (cases_Bool (pointwise nat_eq here left)) [
      | inl t ↦ omega (arith, rw t at step, rw t at one, so_far)
      | inr f ↦ omega (arith, rw f at step, rw f at one, so_far)
    ]

pub count_same : (row counts : List ℕ) (rows : List Row) (places : List Place) (k : ℕ) (left : List ℕ) → k < length places
    → starts_with nat_eq row (left_of rows (place_at places k)) ≡ false → starts_with nat_eq row left ≡ true
    → for_left counts left ≡ count_left rows (take k places) left
    → for_left counts left ≡ count_left rows (take (k + 1) places) left
count_same row counts rows places k left lt fails begins so_far =
    let one = counted rows places k left lt in
    omega (arith, rw (other_left row (left_of rows (place_at places k)) left fails begins) at one, so_far)

-- ---- taken off

off_more : (all each n : ℕ) → all - each * n - each ≡ all - each * (n + 1)
off_more all each n =
    let next : n + 1 ≡ suc n = omega arith in
    omega (arith, ap (λ m. each * m) next, mul-suc each n)

pub take_more_off : (row counts was : List ℕ) (rows : List Row) (places : List Place) (each k len value : ℕ) (left : List ℕ) → k < length places → len < length counts
    → len ≡ length (left_of rows (place_at places k)) → starts_with nat_eq row (left_of rows (place_at places k)) ≡ true → starts_with nat_eq row left ≡ true
    → value ≡ get_or counts len 0 - each → for_left counts left ≡ for_left was left - each * count_left rows (take k places) left
    → for_left (set counts len value) left ≡ for_left was left - each * count_left rows (take (k + 1) places) left
take_more_off row counts was rows places each k len value left lt room many begins begins' is so_far =
    let here = left_of rows (place_at places k) in
    let step = for_set row counts len value (λ n. n - each) here left room many begins begins' is in
    let one = counted rows places k left lt in
    let n = count_left rows (take k places) left in
    elim (cases_Bool (pointwise nat_eq here left)) [
      | inl t ↦
          (rw t at step) ∙ ap (λ m. m - each) so_far ∙ off_more (for_left was left) each n
          ∙ ap (λ m. for_left was left - each * m) (sym (rw t at one))
      | inr f ↦
          let none : count_left rows (take (k + 1) places) left ≡ n = omega (arith, rw f at one) in
          (rw f at step) ∙ so_far ∙ ap (λ m. for_left was left - each * m) (sym none)
    ]

pub take_none_off : (row : List ℕ) (rows : List Row) (places : List Place) (each k all now : ℕ) (left : List ℕ) → k < length places
    → starts_with nat_eq row (left_of rows (place_at places k)) ≡ false → starts_with nat_eq row left ≡ true
    → now ≡ all - each * count_left rows (take k places) left
    → now ≡ all - each * count_left rows (take (k + 1) places) left
take_none_off row rows places each k all now left lt fails begins so_far =
    let one = counted rows places k left lt in
    let none : count_left rows (take (k + 1) places) left ≡ count_left rows (take k places) left =
    omega (arith, rw (other_left row (left_of rows (place_at places k)) left fails begins) at one) in
    so_far ∙ ap (λ m. all - each * m) (sym none)

-- and none, where nothing is left of its left part
pub take_spent_off : (row counts was : List ℕ) (rows : List Row) (places : List Place) (each k : ℕ) (left : List ℕ) → k < length places
    → (starts_with nat_eq row (left_of rows (place_at places k)) ≡ true → for_left counts (left_of rows (place_at places k)) ≡ 0)
    → starts_with nat_eq row left ≡ true
    → for_left counts left ≡ for_left was left - each * count_left rows (take k places) left
    → for_left counts left ≡ for_left was left - each * count_left rows (take (k + 1) places) left
take_spent_off row counts was rows places each k left lt spent begins so_far =
    let here = left_of rows (place_at places k) in
    let one = counted rows places k left lt in
    let n = count_left rows (take k places) left in
    elim (cases_Bool (pointwise nat_eq here left)) [
      | inl t ↦
          let same : here ≡ left = same_left here left t in
          let none : for_left counts left ≡ 0 = ap (for_left counts) (sym same) ∙ spent (ap (starts_with nat_eq row) same ∙ begins) in
          omega (arith, none, so_far, off_more (for_left was left) each n, ap (λ m. for_left was left - each * m) (rw t at one))
      | inr f ↦
          let same : count_left rows (take (k + 1) places) left ≡ n = omega (arith, rw f at one) in
          so_far ∙ ap (λ m. for_left was left - each * m) (sym same)
    ]

-- where none is left of any, no further place takes one
pub none_off : (rows : List Row) (places : List Place) (each k all now : ℕ) (left : List ℕ) → now ≡ 0
    → now ≡ all - each * count_left rows (take k places) left → now ≡ all - each * count_left rows places left
none_off rows places each k all now left none so_far =
    let part : count_left rows (take k places) left ≤ count_left rows places left = omega (arith, count_rest rows places k left) in
    omega (arith, none, so_far, mul-le-mul_left each part)

-- ---- taken off from the last place on, where those behind place k are those from the next one on

-- where some are left
pub last_off : (row counts was : List ℕ) (rows : List Row) (places : List Place) (k next len value : ℕ) (left : List ℕ) → k < length places → next ≡ k + 1 → len < length counts
    → len ≡ length (left_of rows (place_at places k)) → starts_with nat_eq row (left_of rows (place_at places k)) ≡ true → starts_with nat_eq row left ≡ true
    → value ≡ get_or counts len 0 - 1 → for_left counts left ≡ for_left was left - count_left rows (drop next places) left
    → for_left (set counts len value) left ≡ for_left was left - count_left rows (drop k places) left
last_off row counts was rows places k next len value left lt is_next room many begins begins' is so_far =
    let here = left_of rows (place_at places k) in
    let step = for_set row counts len value (λ n. n - 1) here left room many begins begins' is in
    let one = counted_from rows places k left lt in
    let behind = ap (λ n. count_left rows (drop n places) left) is_next in
    elim (cases_Bool (pointwise nat_eq here left)) [
      | inl t ↦ omega (arith, rw t at step, rw t at one, so_far, behind)
      | inr f ↦ omega (arith, rw f at step, rw f at one, so_far, behind)
    ]

-- where none is, or the row doesn't begin so
pub last_spent : (row counts was : List ℕ) (rows : List Row) (places : List Place) (k next : ℕ) (left : List ℕ) → k < length places → next ≡ k + 1
    → (starts_with nat_eq row (left_of rows (place_at places k)) ≡ true → for_left counts (left_of rows (place_at places k)) ≡ 0)
    → starts_with nat_eq row left ≡ true
    → for_left counts left ≡ for_left was left - count_left rows (drop next places) left
    → for_left counts left ≡ for_left was left - count_left rows (drop k places) left
last_spent row counts was rows places k next left lt is_next spent begins so_far =
    let here = left_of rows (place_at places k) in
    let one = counted_from rows places k left lt in
    let behind = ap (λ n. count_left rows (drop n places) left) is_next in
    elim (cases_Bool (pointwise nat_eq here left)) [
      | inl t ↦
          let same : here ≡ left = same_left here left t in
          let none : for_left counts left ≡ 0 = ap (for_left counts) (sym same) ∙ spent (ap (starts_with nat_eq row) same ∙ begins) in
          omega (arith, rw t at one, so_far, behind, none)
      | inr f ↦ omega (arith, rw f at one, so_far, behind)
    ]

-- ---- whether place k is among the last so many

pub is_told : (row counts was : List ℕ) (rows : List Row) (places : List Place) (k next len : ℕ) → k < length places → next ≡ k + 1
    → len ≡ length (left_of rows (place_at places k)) → starts_with nat_eq row (left_of rows (place_at places k)) ≡ true
    → ((left : List ℕ) → starts_with nat_eq row left ≡ true → for_left counts left ≡ for_left was left - count_left rows (drop next places) left)
    → is_last row rows places was k ≡ nat_le 1 (get_or counts len 0)
is_told row counts was rows places k next len lt is_next many begins so_far =
    let here = left_of rows (place_at places k) in
    let one = counted_from rows places k here lt in
    let own : cond {A = ℕ} (pointwise nat_eq here here) 1 0 ≡ 1 = rw (left_same here here refl) refl in
    let behind = ap (λ n. count_left rows (drop n places) here) is_next in
    let at : get_or counts len 0 ≡ for_left counts here = ap (λ n. get_or counts n 0) many in
    let rest = so_far here begins in
    rw begins (elim (cases_lt 0 (get_or counts len 0)) [
      | inl some ↦
          le-leb (count_left rows (drop k places) here) (for_left was here) (omega (arith, some, one, own, behind, at, rest))
          ∙ sym (le-leb 1 (get_or counts len 0) (omega (arith, some)))
      | inr none ↦
          lt-leb (count_left rows (drop k places) here) (for_left was here) (omega (arith, none, one, own, behind, at, rest))
          ∙ sym (lt-leb 1 (get_or counts len 0) (omega (arith, none)))
    ])

pub not_told : (row counts was : List ℕ) (rows : List Row) (places : List Place) (k next : ℕ) → k < length places → next ≡ k + 1
    → (starts_with nat_eq row (left_of rows (place_at places k)) ≡ true → for_left counts (left_of rows (place_at places k)) ≡ 0)
    → ((left : List ℕ) → starts_with nat_eq row left ≡ true → for_left counts left ≡ for_left was left - count_left rows (drop next places) left)
    → is_last row rows places was k ≡ false
not_told row counts was rows places k next lt is_next spent so_far =
    let here = left_of rows (place_at places k) in
    elim (cases_Bool (starts_with nat_eq row here)) [
      | inl begins ↦
          is_told row counts was rows places k next (length here) lt is_next refl begins so_far ∙ ap (nat_le 1) (spent begins)
      | inr fails ↦ rw fails refl
    ]

-- where none is left of any, no place before is
pub none_last : (row counts was : List ℕ) (rows : List Row) (places : List Place) (n at : ℕ) → n < at → at ≤ length places → ((k : ℕ) → get_or counts k 0 ≡ 0)
    → ((left : List ℕ) → starts_with nat_eq row left ≡ true → for_left counts left ≡ for_left was left - count_left rows (drop at places) left)
    → is_last row rows places was n ≡ false
none_last row counts was rows places n at low within none so_far =
    let m = at - (n + 1) in
    let there : n + 1 + m ≡ at = omega (arith, low) in
    not_told row counts was rows places n (n + 1) (omega (arith, low, within)) refl (λ _. none (length (left_of rows (place_at places n))))
    (λ left begins. omega (
      arith,
      none (length left),
      so_far left begins,
      count_rest rows (drop (n + 1) places) m left,
      ap (λ l. count_left rows l left) (drop-drop m (n + 1) places),
      ap (λ k. count_left rows (drop k places) left) there,
    ))

-- ---- what is told, a place further

pub or_true : (b : Bool) → (b || true) ≡ true
or_true true = refl
or_true false = refl

further : (k next n : ℕ) → next ≡ k + 1 → (n ≡ k → ⊥) → nat_le next n ≡ nat_le k n
further k next n is_next apart = elim (cases_lt n k) [
  | inl low ↦ lt-leb next n (omega (arith, low)) ∙ sym (lt-leb k n low)
  | inr high ↦ le-leb next n (omega (arith, high, apart)) ∙ sym (le-leb k n high)
]

-- place k isn't
pub told_same : (told was : List Bool) (last : ℕ → Bool) (k next n : ℕ) → next ≡ k + 1 → last k ≡ false
    → get_or told n false ≡ (get_or was n false || (nat_le next n && last n))
    → get_or told n false ≡ (get_or was n false || (nat_le k n && last n))
told_same told was last k next n is_next fails so_far = elim (cases_eq n k) [
  | inl is ↦
      so_far ∙ ap (λ b. get_or was n false || (b && last n)) (lt-leb next n (omega (arith, is)))
      ∙ ap (λ b. get_or was n false || b) (sym (rw (le-leb k n (omega (arith, is))) (ap last is ∙ fails)))
  | inr apart ↦ so_far ∙ ap (λ b. get_or was n false || (b && last n)) (further k next n is_next apart)
]

-- place k is
pub told_more : (told was : List Bool) (last : ℕ → Bool) (k next n : ℕ) → next ≡ k + 1 → k < length told → last k ≡ true
    → get_or told n false ≡ (get_or was n false || (nat_le next n && last n))
    → get_or (set told k true) n false ≡ (get_or was n false || (nat_le k n && last n))
told_more told was last k next n is_next lt holds so_far = elim (cases_eq n k) [
  | inl is ↦
      ap (λ m. get_or (set told k true) m false) is ∙ get_or-set_same told k true false lt
      ∙ sym (rw (le-leb k n (omega (arith, is))) (rw (ap last is ∙ holds) (or_true (get_or was n false))))
  | inr apart ↦ get_or-set_other told k n true false apart ∙ so_far ∙ ap (λ b. get_or was n false || (b && last n)) (further k next n is_next apart)
]

-- where none has a surplus, none is
or_false : (b : Bool) → (b || false) ≡ b
or_false true = refl
or_false false = refl

pub none_told : (row surplus : List ℕ) (rows : List Row) (places : List Place) (told : Bool) (n : ℕ) → n < length places
    → ((left : List ℕ) → starts_with nat_eq row left ≡ true → for_left surplus left ≡ 0) → told ≡ (told || is_last row rows places surplus n)
none_told row surplus rows places told n lt none =
    let left = left_of rows (place_at places n) in
    let own : cond {A = ℕ} (pointwise nat_eq left left) 1 0 ≡ 1 = rw (left_same left left refl) refl in
    let last : is_last row rows places surplus n ≡ false = elim (cases_Bool (starts_with nat_eq row left)) [
      | inl begins ↦ rw begins (lt-leb (count_left rows (drop n places) left) (for_left surplus left) (omega (arith, own, counted_from rows places n left lt, none left begins)))
      | inr fails ↦ rw fails refl
    ] in
    sym (or_false told) ∙ ap (λ b. told || b) (sym last)

-- ---- where left parts of fewer characters than so many have none

pub none_long : (row counts : List ℕ) (least : ℕ) (left : List ℕ) → length row < least → ((k : ℕ) → k < least → get_or counts k 0 ≡ 0)
    → starts_with nat_eq row left ≡ true → for_left counts left ≡ 0
none_long row counts least left short none begins = none (length left) (omega (arith, short, front_fits row left begins))

pub none_still : (counts : List ℕ) (least len value k : ℕ) → ((n : ℕ) → n < least → get_or counts n 0 ≡ 0) → 0 < get_or counts len 0 → k < least
    → get_or (set counts len value) k 0 ≡ 0
none_still counts least len value k none some lt = elim (cases_eq k len) [
  | inl is ↦ absurd (omega (arith, some, ap (λ n. get_or counts n 0) is, none k lt))
  | inr apart ↦ get_or-set_other counts len k value 0 apart ∙ none k lt
]

-- nor those of a block
pub none_block : {X : Type 0} (xs : List X) (from count k : ℕ) (x : X) → ((n : ℕ) → get_or (take count (drop from xs)) n x ≡ x) → from ≤ k → k < from + count → get_or xs k x ≡ x
none_block xs from count k x none low high =
    let here : from + (k - from) ≡ k = omega (arith, low) in
    ap (λ n. get_or xs n x) (sym here) ∙ sym (get_or-drop from xs (k - from) x)
    ∙ sym (get_or-take count (drop from xs) (k - from) x (omega (arith, low, high))) ∙ none (k - from)

no_less : (n : ℕ) → n ≤ 0 → n ≡ 0
no_less n le = omega (arith, le)

-- what begins with a left part of a row begins with as many of the row's first characters
front_shared : (row characters left : List ℕ) (before least : ℕ) → starts_with nat_eq row left ≡ true → take before characters ≡ left → least ≤ length left
    → starts_with nat_eq characters (take least row) ≡ true
front_shared row characters left before least begins is le =
    let some : length left ≤ before = omega (arith, ap length is, length-take before characters) in
    let fits : length (take least row) ≡ least = omega (arith, length-take least row, front_fits row left begins, le) in
    is_front characters (take least row)
    (sym (take-take least (length left) row le) ∙ ap (take least) (sym (front_is row left begins)) ∙ ap (take least) (sym is)
    ∙ take-take least before characters (omega (arith, le, some)) ∙ ap (λ n. take n characters) (sym fits))

-- where no row begins with as many of the row's first characters no place has a left part with as many
pub none_begin : (row : List ℕ) (rows : List Row) (places : List Place) (least : ℕ) (left : List ℕ) → 0 < length (take least row)
    → ((above : ℕ) → above < length rows → starts_with nat_eq (row_below rows above).characters (take least row) ≡ false)
    → starts_with nat_eq row left ≡ true → least ≤ length left → count_left rows places left ≡ 0
none_begin row rows places least left some apart begins high = elim (cases_lt 0 (count_left rows places left)) [
  | inr zero ↦ no_less (count_left rows places left) zero
  | inl has ↦
      let one = one_has rows places left has in
      let place = place_at places one.0 in
      elim (cases_lt place.above (length rows)) [
        | inl below ↦ absurd (false≢true (sym (apart place.above below) ∙ front_shared row (row_below rows place.above).characters left place.before least begins one.2 high))
        | inr past ↦ absurd (omega (
          arith,
          some,
          high,
          length-take least row,
          ap length one.2,
          length-take place.before (row_below rows place.above).characters,
          ap (λ (r : Row). length r.characters) (get_or_past rows place.above empty_row (omega (arith, past))),
        ))
      ]
]

-- and one of the row's own rows alone
pub own_begin : (row : List ℕ) (rows : List Row) (place : Place) (above least : ℕ) (left : List ℕ) → 0 < length (take least row)
    → ((k : ℕ) → k < length rows → (k ≡ above → ⊥) → starts_with nat_eq (row_below rows k).characters (take least row) ≡ false)
    → starts_with nat_eq row left ≡ true → least ≤ length left → left_of rows place ≡ left
    → (place.above ≡ above) × (least ≤ place.before)
own_begin row rows place above least left some apart begins high is =
    let low : least ≤ place.before = omega (arith, high, ap length is, length-take place.before (row_below rows place.above).characters) in
    elim (cases_eq place.above above) [
      | inl same ↦ (same, low)
      | inr differs ↦ elim (cases_lt place.above (length rows)) [
        | inl below ↦ absurd (false≢true (sym (apart place.above below differs) ∙ front_shared row (row_below rows place.above).characters left place.before least begins is high))
        | inr past ↦ absurd (omega (
          arith,
          some,
          high,
          length-take least row,
          ap length is,
          length-take place.before (row_below rows place.above).characters,
          ap (λ (r : Row). length r.characters) (get_or_past rows place.above empty_row (omega (arith, past))),
        ))
      ]
    ]

-- where no row begins with as many of the row's first characters no place has one that counts
pub none_here : (row counts : List ℕ) (rows : List Row) (places : List Place) (least each : ℕ) (left : List ℕ) → 0 < length (take least row)
    → ((k : ℕ) → k < least → get_or counts k 0 ≡ 0)
    → ((above : ℕ) → above < length rows → starts_with nat_eq (row_below rows above).characters (take least row) ≡ false)
    → starts_with nat_eq row left ≡ true → for_left counts left ≡ for_left counts left - each * count_left rows places left
none_here row counts rows places least each left some none apart begins = elim (cases_lt (length left) least) [
  | inl low ↦ omega (arith, none (length left) low)
  | inr high ↦ omega (arith, ap (λ n. each * n) (none_begin row rows places least left some apart begins (omega (arith, high))))
]
