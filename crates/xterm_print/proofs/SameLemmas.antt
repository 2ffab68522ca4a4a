-- Rows that are compared, cell by cell.
use Rattle.std.proofs.Common.{◌≡◌, ℕ, zero, suc, ◌+◌, ◌-◌, ◌<◌, ◌≤◌, Bool, true, false, List, [], ◌∷◌, ◌++◌, length, get_or, take, drop, min, refl, ap, ap₂, sym, ◌∙◌, arith, inl, inr}
use borrow.Rule.Slice.PartMut.{put_mid}
use Rattle.std.specs.Prelude.{◌&&◌}
use Rattle.std.specs.Cmp.Lexicographic.{pointwise}
use Rattle.std.proofs.lemmas.Bool.{cases_Bool, cases_lt, false≢true}
use Rattle.std.proofs.lemmas.List.{drop-drop, get_or-drop, get_or-take, get_or_default, length-drop, length-take, same_lists, take-append-drop}
use Rattle.sheet.specs.declared.rendition.Colour.TheVariants.{Default}
use Rattle.sheet.specs.Cells.{Cell, blank}
use Rattle.sheet.specs.Grid.{IsUsed}
use Rattle.sheet.specs.Table.{nth}
use Rattle.xterm_print.specs.ChangeLines.{same_cell, same_row}
use Rattle.xterm_print.specs.Same.{Agree}
use Rattle.xterm_print.proofs.KeptLemmas.{same_itself}

-- of two truth values that hold together, each holds
pub both : (s t : Bool) → (s && t) ≡ true → (s ≡ true) × (t ≡ true)
both true t h = (refl, h)
both false t h = absurd (false≢true h)

-- where lists are the same, elements at one place are
each_same : {X : Type 0} (same : X → X → Bool) (xs ys : List X) (k : ℕ) (d : X) → pointwise same xs ys ≡ true → k < length xs
    → same (get_or xs k d) (get_or ys k d) ≡ true
each_same same [] [] k d h below = absurd (omega (arith, below))
each_same same [] (y ∷ ys) k d h below = absurd (omega (arith, below))
each_same same (x ∷ xs) [] k d h below = absurd (false≢true h)
each_same same (x ∷ xs) (y ∷ ys) zero d h below = (both (same x y) (pointwise same xs ys) h).0
each_same same (x ∷ xs) (y ∷ ys) (suc k) d h below = each_same same xs ys k d (both (same x y) (pointwise same xs ys) h).1 (omega (arith, below))

-- rows of which two cells differ aren't the same
pub rows_differ : (one other : List Cell) (k : ℕ) (a b : Cell) → length one ≡ length other → k < length one
    → a ≡ get_or one k a → b ≡ get_or other k b → same_cell a b ≡ false → same_row one other ≡ false
rows_differ one other k a b long below is is' differ = elim (cases_Bool (same_row one other)) [
  | inl t ↦
      let there = get_or_default one k a (blank Default) below in
      let there' = get_or_default other k b (blank Default) (omega (arith, below, long)) in
      let same : same_cell a b ≡ true =
      ap (λ c. same_cell c b) (is ∙ there) ∙ ap (same_cell (get_or one k (blank Default))) (is' ∙ there') ∙ each_same same_cell one other k (blank Default) t below in
      absurd (false≢true (sym differ ∙ same))
  | inr f ↦ f
]

-- rows all of whose cells are equal are equal
pub rows_agree : (one other : List Cell) (at : ℕ) → length one ≡ length other → Agree one other 0 at → Agree one other at (length one) → one ≡ other
rows_agree one other at long first rest = same_lists one other long (λ k d below.
    let below' : k < length other = omega (arith, below, long) in
    get_or_default one k d (blank Default) below
    ∙ elim (cases_lt k at) [ inl low ↦ first k (omega arith) low | inr high ↦ rest k high below ]
    ∙ sym (get_or_default other k d (blank Default) below'))

-- rows that agree up to a place, where their cells are equal, agree beyond it
pub agree_more : (one other : List Cell) (from at : ℕ) (a b : Cell) → at < length one → at < length other → Agree one other from at
    → a ≡ get_or one at a → b ≡ get_or other at b → a ≡ b → Agree one other from (at + 1)
agree_more one other from at a b below below' so_far is is' same = λ k low high. elim (cases_lt k at) [
  | inl before ↦ so_far k low before
  | inr behind ↦
      let here : k ≡ at = omega (arith, behind, high) in
      ap (λ n. get_or one n (blank Default)) here ∙ sym (is ∙ get_or_default one at a (blank Default) below)
      ∙ same ∙ is' ∙ get_or_default other at b (blank Default) below' ∙ ap (λ n. get_or other n (blank Default)) (sym here)
]

-- rows that are equal are the same
pub equal_same : (one other : List Cell) → one ≡ other → same_row one other ≡ true
equal_same one other is = ap (λ r. same_row r other) is ∙ same_itself other

-- rows agree where both are blank
pub tails_agree : (one other : List Cell) (used used' end : ℕ) → IsUsed one used → IsUsed other used' → used ≤ end → used' ≤ end
    → Agree one other end (length other)
unfolding nth
tails_agree one other used used' end is is' low low' = λ k from below.
    is.tail (suc k) (omega (arith, from, low)) ∙ sym (is'.tail (suc k) (omega (arith, from, low')))

-- rows that agree up to a place behind which both are blank are equal
pub equal_in_use : (one other : List Cell) (used used' end : ℕ) → length one ≡ length other → IsUsed one used → IsUsed other used'
    → used ≤ end → used' ≤ end → Agree one other 0 end → one ≡ other
equal_in_use one other used used' end long is is' low low' agree =
    rows_agree one other end long agree (λ k from below. tails_agree one other used used' end is is' low low' k from (omega (arith, below, long)))

-- rows that agree up to a place begin alike
first_cells : (one other : List Cell) (at : ℕ) → length one ≡ length other → Agree one other 0 at → take at one ≡ take at other
first_cells one other at long agree =
    same_lists (take at one) (take at other) (length-take at one ∙ ap (λ n. min at n) long ∙ sym (length-take at other)) (λ k d below.
    let low : k < at = omega (arith, below, length-take at one) in
    let within : k < length one = omega (arith, below, length-take at one) in
    get_or-take at one k d low ∙ get_or_default one k d (blank Default) within ∙ agree k (omega arith) low
    ∙ sym (get_or_default other k d (blank Default) (omega (arith, within, long))) ∙ sym (get_or-take at other k d low))

-- rows that agree from a place on end alike
last_cells : (one other : List Cell) (at : ℕ) → length one ≡ length other → Agree one other at (length other) → drop at one ≡ drop at other
last_cells one other at long agree =
    same_lists (drop at one) (drop at other) (length-drop at one ∙ ap (λ n. n - at) long ∙ sym (length-drop at other)) (λ k d below.
    let within : at + k < length one = omega (arith, below, length-drop at one) in
    let within' : at + k < length other = omega (arith, within, long) in
    get_or-drop at one k d ∙ get_or_default one (at + k) d (blank Default) within ∙ agree (at + k) (omega arith) within'
    ∙ sym (get_or_default other (at + k) d (blank Default) within') ∙ sym (get_or-drop at other k d))

-- a row that agrees with another but between two places is the other once those cells are copied
pub copied_between : (one other copied : List Cell) (from to : ℕ) → length one ≡ length other → from ≤ to
    → Agree one other 0 from → Agree one other to (length other) → copied ≡ take (to - from) (drop from other)
    → put_mid from (to - from) one copied ≡ other
copied_between one other copied from to long apart before behind is =
    let count = to - from in
    let all : from + count ≡ to = omega arith in
    let rest : drop count (drop from one) ≡ drop count (drop from other) =
    drop-drop count from one ∙ ap (λ n. drop n one) all ∙ last_cells one other to long behind ∙ ap (λ n. drop n other) (sym all) ∙ sym (drop-drop count from other) in
    ap (λ l. l ++ (copied ++ drop count (drop from one))) (first_cells one other from long before)
    ∙ ap (λ l. take from other ++ l) (ap₂ (λ l m. l ++ m) is rest ∙ take-append-drop count (drop from other))
    ∙ take-append-drop from other
