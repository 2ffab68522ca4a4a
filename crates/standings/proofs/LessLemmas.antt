-- The places that are less, by the surplus of the rows that stand alone.
use Rattle.std.proofs.Common.{◌≡◌, ℕ, zero, suc, ◌-◌, ◌*◌, ◌<◌, ◌≤◌, ◌&&◌, ◌||◌, ◌==◌, Bool, false, true, List, drop, length, nat_eq, nat_le, slice_index_or, take, cond, refl, ap, subst, sym, ◌∙◌, arith, inl, inr}
use Rattle.std.specs.Cmp.{second_so}
use Rattle.std.specs.Cmp.Lexicographic.{pointwise}
use Rattle.std.specs.List.{starts_with}
use Rattle.std.proofs.lemmas.Bool.{cases_Bool, cases_lt, eq-eqb, false≢true, le-leb, leb-true, lt-leb, ne_eqb}
use Rattle.std.proofs.Math.Nat.{mul-suc}
use Rattle.std.proofs.lemmas.List.{length-take-le, take_all}
use Rattle.std.proofs.lemmas.List.Sums.{count_by-le-length}
use Rattle.standings.specs.Less.{IsSurplus, PairOff, for_left, is_last}
use Rattle.standings.specs.Rows.{Row}
use Rattle.standings.specs.Standing.{count_left, is_less, is_lone, left_of, place_at}
use Rattle.standings.specs.declared.place.Place.{Place}
use Rattle.standings.proofs.CountLemmas.{count_rest, counted_from, last_has, one_has}
use Rattle.standings.proofs.LeftLemmas.{left_same, own_front}
use Rattle.standings.proofs.SurplusLemmas.{or_true}

-- one that is less is among the last so many with its left part: as many as the surplus
pub less_is_last : (one other : List Row) (places others alone alones : List Place) (n : ℕ) → n < length places
    → PairOff one places other others alone alones
    → nat_le (count_left one (drop n places) (left_of one (place_at places n)))
    (count_left one alone (left_of one (place_at places n)) - count_left other alones (left_of one (place_at places n)))
    ≡ is_less one places other others n
less_is_last one other places others alone alones n lt pairs =
    let left = left_of one (place_at places n) in
    let here : cond {A = ℕ} (pointwise nat_eq left left) 1 0 ≡ 1 = rw (left_same left left refl) refl in
    let all = count_rest one places n left in
    let last = counted_from one places n left lt in
    let paired = pairs left in
    elim (cases_lt (count_left one (take n places) left) (count_left other others left)) [
      | inl more ↦
          lt-leb (count_left one (drop n places) left) (count_left one alone left - count_left other alones left) (omega (arith, more, here, all, last, paired))
          ∙ sym (lt-leb (count_left other others left) (count_left one (take n places) left) more)
      | inr less ↦
          le-leb (count_left one (drop n places) left) (count_left one alone left - count_left other alones left) (omega (arith, less, here, all, last, paired))
          ∙ sym (le-leb (count_left other others left) (count_left one (take n places) left) less)
    ]

-- and some place alone has its left part
pub less_is_alone : (one other : List Row) (places others alone alones : List Place) (n : ℕ) → n < length places
    → PairOff one places other others alone alones → is_less one places other others n ≡ true
    → (m : ℕ) × (m < length alone) × (left_of one (place_at alone m) ≡ left_of one (place_at places n))
less_is_alone one other places others alone alones n lt pairs less =
    let left = left_of one (place_at places n) in
    let here : cond {A = ℕ} (pointwise nat_eq left left) 1 0 ≡ 1 = rw (left_same left left refl) refl in
    one_has one alone left (omega (
      arith,
      here,
      count_rest one places n left,
      counted_from one places n left lt,
      pairs left,
      leb-true (count_left other others left) (count_left one (take n places) left) less,
    ))

-- ---- one row alone after another

-- a left part of the row: told of exactly where it is less
pub last_is_less : (row surplus : List ℕ) (one other : List Row) (places others alone alones : List Place) (n : ℕ) → n < length places
    → PairOff one places other others alone alones → IsSurplus row one alone other alones surplus
    → starts_with nat_eq row (left_of one (place_at places n)) ≡ true
    → is_last row one places surplus n ≡ is_less one places other others n
last_is_less row surplus one other places others alone alones n lt pairs are begins =
    let left = left_of one (place_at places n) in
    rw begins (ap (nat_le (count_left one (drop n places) left)) (are left begins) ∙ less_is_last one other places others alone alones n lt pairs)

-- where a surplus is left of left parts that stand at no end, it is told of exactly those that are less and stand at none
pub last_is_wanted : (row surplus spent : List ℕ) (away : List ℕ → Bool) (one other : List Row) (places others alone alones : List Place) (n : ℕ) → n < length places
    → PairOff one places other others alone alones → IsSurplus row one alone other alones surplus
    → ((left : List ℕ) → starts_with nat_eq row left ≡ true → away left ≡ true → for_left spent left ≡ for_left surplus left)
    → ((left : List ℕ) → starts_with nat_eq row left ≡ true → away left ≡ false → for_left spent left ≡ 0)
    → starts_with nat_eq row (left_of one (place_at places n)) ≡ true
    → is_last row one places spent n ≡ (away (left_of one (place_at places n)) && is_less one places other others n)
last_is_wanted row surplus spent away one other places others alone alones n lt pairs are kept gone begins =
    let left = left_of one (place_at places n) in
    let here : cond {A = ℕ} (pointwise nat_eq left left) 1 0 ≡ 1 = rw (left_same left left refl) refl in
    elim (cases_Bool (away left)) [
      | inl holds ↦
          rw holds (rw begins (ap (nat_le (count_left one (drop n places) left)) (kept left begins holds ∙ are left begins) ∙ less_is_last one other places others alone alones n lt pairs))
      | inr fails ↦
          rw fails (rw begins (ap (nat_le (count_left one (drop n places) left)) (gone left begins fails)
          ∙ lt-leb (count_left one (drop n places) left) 0 (omega (arith, here, counted_from one places n left lt))))
    ]

-- what is told of is wanted
pub right_told : (row spent : List ℕ) (one : List Row) (places : List Place) (told was wanted : Bool) (n : ℕ)
    → (starts_with nat_eq row (left_of one (place_at places n)) ≡ true → is_last row one places spent n ≡ wanted)
    → told ≡ (was || is_last row one places spent n)
    → (was ≡ true → wanted ≡ true)
    → told ≡ true → wanted ≡ true
right_told row spent one places told was wanted n last is before holds = elim (cases_Bool was) [
  | inl t ↦ before t
  | inr f ↦
      let so : is_last row one places spent n ≡ true = sym (rw f at is) ∙ holds in
      elim (cases_Bool (starts_with nat_eq row (left_of one (place_at places n)))) [
        | inl begins ↦ sym (last begins) ∙ so
        | inr kept ↦ absurd (false≢true (sym (rw kept refl) ∙ so))
      ]
]

-- and where it is wanted, and its left part is one of the row, it is told of
pub whole_told : (row spent : List ℕ) (one : List Row) (places : List Place) (told was wanted : Bool) (n : ℕ)
    → (starts_with nat_eq row (left_of one (place_at places n)) ≡ true → is_last row one places spent n ≡ wanted)
    → told ≡ (was || is_last row one places spent n)
    → starts_with nat_eq row (left_of one (place_at places n)) ≡ true
    → wanted ≡ true → told ≡ true
whole_told row spent one places told was wanted n last is begins holds =
    is ∙ ap (λ b. was || b) (last begins ∙ holds) ∙ or_true was

-- it is told of all that are wanted, which are less, where it is of those with a left part of some place alone
pub all_told : (one other : List Row) (places others alone alones : List Place) (told away : Bool) (n : ℕ) → n < length places
    → PairOff one places other others alone alones
    → (told ≡ true → (away && is_less one places other others n) ≡ true)
    → ((m : ℕ) → m < length alone → left_of one (place_at places n) ≡ left_of one (place_at alone m)
    → (away && is_less one places other others n) ≡ true → told ≡ true)
    → told ≡ (away && is_less one places other others n)
all_told one other places others alone alones told away n lt pairs right whole = elim (cases_Bool (away && is_less one places other others n)) [
  | inl wanted ↦
      let m = less_is_alone one other places others alone alones n lt pairs (second_so away (is_less one places other others n) wanted) in
      whole m.0 m.1 (sym m.2) wanted ∙ sym wanted
  | inr kept ↦ elim (cases_Bool told) [
    | inl holds ↦ absurd (false≢true (sym kept ∙ right holds))
    | inr fails ↦ fails ∙ sym kept
  ]
]

-- ---- none passes

-- where a third screen has as many with its left part as stand alone
pub none_gone : (one other first : List Row) (places others firsts alone alones : List Place) (n : ℕ) → n < length places
    → PairOff one places other others alone alones
    → count_left one alone (left_of one (place_at places n)) ≤ count_left first firsts (left_of one (place_at places n))
    → (is_less one places other others n && is_lone first firsts (left_of one (place_at places n))) ≡ false
none_gone one other first places others firsts alone alones n lt pairs le =
    let left = left_of one (place_at places n) in
    elim (cases_Bool (is_less one places other others n)) [
      | inr kept ↦ rw kept refl
      | inl less ↦ rw less (ne_eqb (count_left first firsts left) 0 (λ lone.
          let here : cond {A = ℕ} (pointwise nat_eq left left) 1 0 ≡ 1 = rw (left_same left left refl) refl in
          absurd (omega (
            arith,
            lone,
            le,
            here,
            count_rest one places n left,
            counted_from one places n left lt,
            pairs left,
            leb-true (count_left other others left) (count_left one (take n places) left) less,
          ))))
    ]

-- where no surplus is left, but for what stands on a third screen
pub none_left : (row surplus spent : List ℕ) (one other first : List Row) (places others firsts alone alones : List Place) (each n : ℕ) → n < length places
    → PairOff one places other others alone alones → IsSurplus row one alone other alones surplus
    → ((left : List ℕ) → starts_with nat_eq row left ≡ true → for_left spent left ≡ for_left surplus left - each * count_left first firsts left)
    → ((left : List ℕ) → for_left spent left ≡ 0)
    → starts_with nat_eq row (left_of one (place_at places n)) ≡ true
    → (is_less one places other others n && is_lone first firsts (left_of one (place_at places n))) ≡ false
none_left row surplus spent one other first places others firsts alone alones each n lt pairs are off none begins =
    let left = left_of one (place_at places n) in
    elim (cases_Bool (is_less one places other others n)) [
      | inr kept ↦ rw kept refl
      | inl less ↦ rw less (ne_eqb (count_left first firsts left) 0 (λ lone.
          let some = leb-true (count_left one (drop n places) left) (for_left surplus left)
          (sym (rw begins refl) ∙ last_is_less row surplus one other places others alone alones n lt pairs are begins ∙ less) in
          let here : cond {A = ℕ} (pointwise nat_eq left left) 1 0 ≡ 1 = rw (left_same left left refl) refl in
          let kept : for_left surplus left - each * count_left first firsts left ≡ for_left surplus left =
          ap (λ k. for_left surplus left - each * k) lone ∙ omega arith in
          absurd (omega (arith, some, here, counted_from one places n left lt, sym (none left) ∙ off left begins ∙ kept))))
    ]

-- where none with a left part of some place alone does, none does
pub all_stay : (one other : List Row) (places others alone alones : List Place) (lone : Bool) (n : ℕ) → n < length places
    → PairOff one places other others alone alones
    → ((m : ℕ) → m < length alone → left_of one (place_at places n) ≡ left_of one (place_at alone m) → (is_less one places other others n && lone) ≡ false)
    → (is_less one places other others n && lone) ≡ false
all_stay one other places others alone alones lone n lt pairs none = elim (cases_Bool (is_less one places other others n)) [
  | inl less ↦ let m = less_is_alone one other places others alone alones n lt pairs less in none m.0 m.1 (sym m.2)
  | inr kept ↦ rw kept refl
]

-- where some surplus is left, the last place with its left part does
spent_by : (all each n : ℕ) → all ≤ each → 0 < all - each * n → n ≡ 0
spent_by all each zero le some = refl
spent_by all each (suc n) le some = absurd (omega (arith, le, some, mul-suc each n))

pub some_left : (row surplus spent : List ℕ) (one other first : List Row) (places others firsts alone alones : List Place) (each k : ℕ)
    → PairOff one places other others alone alones → IsSurplus row one alone other alones surplus
    → ((left : List ℕ) → starts_with nat_eq row left ≡ true → for_left spent left ≡ for_left surplus left - each * count_left first firsts left)
    → length alone ≤ each → k ≤ length row → 0 < slice_index_or spent k 0
    → (n : ℕ) × (n < length places) × ((is_less one places other others n && is_lone first firsts (left_of one (place_at places n))) ≡ true)
some_left row surplus spent one other first places others firsts alone alones each k pairs are off fit within some =
    let left = take k row in
    let begins = own_front row k in
    let len : length left ≡ k = length-take-le k row within in
    let here = ap (λ i. slice_index_or spent i 0) len in
    let rest = off left begins in
    let few : count_left one alone left ≤ length alone = count_by-le-length (λ place. pointwise nat_eq (left_of one place) left) alone in
    let lone = spent_by (for_left surplus left) each (count_left first firsts left) (omega (arith, fit, few, are left begins)) (omega (arith, some, here, rest)) in
    let more : count_left other others left < count_left one places left = omega (arith, some, here, rest, are left begins, pairs left) in
    let all = ap (λ l. count_left one l left) (take_all (length places) places (omega arith)) in
    let last = last_has one places left (length places) (omega arith) (omega (arith, more, all)) in
    let less : is_less one places other others last.0 ≡ true =
    subst (λ l. nat_le (count_left other others l) (count_left one (take last.0 places) l) ≡ true) (sym last.2)
    (le-leb (count_left other others left) (count_left one (take last.0 places) left) (omega (arith, more, all, last.3))) in
    let stands : is_lone first firsts (left_of one (place_at places last.0)) ≡ true =
    subst (λ l. (count_left first firsts l == 0) ≡ true) (sym last.2) (eq-eqb (count_left first firsts left) 0 lone) in
    (last.0, last.1, rw less stands)
