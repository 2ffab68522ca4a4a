-- How many places have the same to the left, by parts of a list of places.
use Rattle.std.proofs.Common.{◌≡◌, ℕ, zero, suc, ◌+◌, ◌-◌, ◌<◌, ◌≤◌, List, [], ◌∷◌, ◌++◌, drop, length, nat_eq, take, cond, refl, ap, sym, ◌∙◌, arith, inl, inr}
use Rattle.std.specs.Cmp.Lexicographic.{pointwise}
use Rattle.std.proofs.lemmas.Bool.{cases_Bool}
use Rattle.std.proofs.lemmas.Bool.Decides.{Decides-eqb}
use Rattle.std.proofs.lemmas.List.{drop-take, take-take}
use Rattle.std.proofs.lemmas.Slice.Eq.{slice_eq-Decides}
use Rattle.std.proofs.lemmas.List.Sums.{count_by_more_no, count_by_more_yes, sum_by-append, sum_by-cons, sum_by-drop_more, sum_by-take-drop}
use Rattle.standings.specs.Rows.{Row}
use Rattle.standings.specs.Standing.{count_left, left_of, place_at, place_in}
use Rattle.standings.specs.declared.place.Place.{Place}

pub counted : (rows : List Row) (places : List Place) (n : ℕ) (left : List ℕ) → n < length places
    → count_left rows (take (n + 1) places) left ≡ count_left rows (take n places) left + cond (pointwise nat_eq (left_of rows (place_at places n)) left) 1 0
counted rows places n left lt =
    let test = pointwise nat_eq (left_of rows (place_at places n)) left in
    elim (cases_Bool test) [
      | inl t ↦ rw t (count_by_more_yes (λ place. pointwise nat_eq (left_of rows place) left) places n (place_in 0 0) lt t)
      | inr f ↦ rw f (count_by_more_no (λ place. pointwise nat_eq (left_of rows place) left) places n (place_in 0 0) lt f ∙ omega arith)
    ]

-- from the last place on
pub counted_from : (rows : List Row) (places : List Place) (n : ℕ) (left : List ℕ) → n < length places
    → count_left rows (drop n places) left ≡ cond (pointwise nat_eq (left_of rows (place_at places n)) left) 1 0 + count_left rows (drop (n + 1) places) left
counted_from rows places n left lt = sum_by-drop_more (λ (place : Place). cond (pointwise nat_eq (left_of rows place) left) 1 0) places n (place_in 0 0) lt

-- ---- parts of a list of places

pub count_rest : (rows : List Row) (places : List Place) (n : ℕ) (left : List ℕ)
    → count_left rows (take n places) left + count_left rows (drop n places) left ≡ count_left rows places left
count_rest rows places n left = sum_by-take-drop (λ (place : Place). cond (pointwise nat_eq (left_of rows place) left) 1 0) places n

pub count_on : (rows : List Row) (places more : List Place) (left : List ℕ)
    → count_left rows (places ++ more) left ≡ count_left rows places left + count_left rows more left
count_on rows places more left = sum_by-append (λ (place : Place). cond (pointwise nat_eq (left_of rows place) left) 1 0) places more

pub count_cut : (rows : List Row) (places : List Place) (from to : ℕ) (left : List ℕ) → from ≤ to
    → count_left rows (take to places) left ≡ count_left rows (take from places) left + count_left rows (take (to - from) (drop from places)) left
count_cut rows places from to left le =
    let both : from + (to - from) ≡ to = omega arith in
    let middle : drop from (take to places) ≡ take (to - from) (drop from places) =
    ap (λ n. drop from (take n places)) (sym both) ∙ drop-take from (to - from) places in
    sym (count_rest rows (take to places) from left)
    ∙ ap (λ l. count_left rows l left + count_left rows (drop from (take to places)) left) (take-take from to places le)
    ∙ ap (λ l. count_left rows (take from places) left + count_left rows l left) middle

-- where some have it, one of them does
pub one_has : (rows : List Row) (places : List Place) (left : List ℕ) → 0 < count_left rows places left
    → (n : ℕ) × (n < length places) × (left_of rows (place_at places n) ≡ left)
one_has rows [] left some = absurd (omega (arith, some))
one_has rows (place ∷ places) left some =
    let test = pointwise nat_eq (left_of rows place) left in
    let sum = sum_by-cons (λ (p : Place). cond (pointwise nat_eq (left_of rows p) left) 1 0) place places in
    elim (cases_Bool test) [
      | inl t ↦ (0, omega arith, (slice_eq-Decides Decides-eqb (left_of rows place) left test refl).0 t)
      | inr f ↦
          let none : cond {A = ℕ} test 1 0 ≡ 0 = rw f refl in
          let rest = one_has rows places left (omega (arith, some, sum, none)) in
          (suc rest.0, omega (arith, rest.1), rest.2)
    ]

-- and one is the last of the first so many
pub last_has : (rows : List Row) (places : List Place) (left : List ℕ) (m : ℕ) → m ≤ length places → 0 < count_left rows (take m places) left
    → (n : ℕ) × (n < length places) × (left_of rows (place_at places n) ≡ left) × (count_left rows (take n places) left + 1 ≡ count_left rows (take m places) left)
last_has rows places left zero le some = absurd (omega (arith, some))
last_has rows places left (suc m) le some =
    let test = pointwise nat_eq (left_of rows (place_at places m)) left in
    let next : m + 1 ≡ suc m = omega arith in
    let one = counted rows places m left (omega (arith, le)) in
    let all = ap (λ k. count_left rows (take k places) left) next in
    elim (cases_Bool test) [
      | inl t ↦ (m, omega (arith, le), (slice_eq-Decides Decides-eqb (left_of rows (place_at places m)) left test refl).0 t, omega (arith, rw t at one, all))
      | inr f ↦
          let rest = last_has rows places left m (omega (arith, le)) (omega (arith, some, rw f at one, all)) in
          (rest.0, rest.1, rest.2, omega (arith, rest.3, rw f at one, all))
    ]
