-- Numbers that rise, and texts of them.
use Rattle.std.proofs.Common.{◌≡◌, ℕ, zero, suc, ◌+◌, ◌-◌, ◌≤◌, List, [], ◌∷◌, ◌++◌, ap, sym, ◌∙◌, arith, add-zero, add-one, append-nil}
use Rattle.std.specs.List.{flat_map, range_with_len}
use Rattle.std.proofs.lemmas.List.Concat.{flat_map-append}

-- the first of them
pub range_first : (a n m : ℕ) → n ≡ m + 1 → range_with_len a n ≡ a ∷ range_with_len (a + 1) m
range_first a n m e = ap (range_with_len a) (e ∙ add-one m)

-- in two parts
pub range_split : (a m n : ℕ) → range_with_len a (m + n) ≡ range_with_len a m ++ range_with_len (a + m) n
range_split a zero n =
    let same : 0 + n ≡ n = omega arith in
    ap (range_with_len a) same ∙ ap (λ b. range_with_len b n) (sym (add-zero a))
range_split a (suc m) n =
    let longer : suc m + n ≡ suc (m + n) = omega arith in
    let there : a + 1 + m ≡ a + suc m = omega arith in
    ap (range_with_len a) longer ∙ ap (λ l. a ∷ l) (range_split (a + 1) m n ∙ ap (λ b. range_with_len (a + 1) m ++ range_with_len b n) there)

-- the texts of the numbers from one on, to before another
abbrev pub texts_from : (ℕ → List ℕ) → ℕ → ℕ → List ℕ
texts_from text from at = flat_map text (range_with_len from (at - from))

-- one more
pub texts_more : (text : ℕ → List ℕ) (from at : ℕ) → from ≤ at
    → texts_from text from (at + 1) ≡ texts_from text from at ++ text at
texts_more text from at low =
    let parts : at + 1 - from ≡ at - from + 1 = omega arith in
    let there : from + (at - from) ≡ at = omega arith in
    ap (λ n. flat_map text (range_with_len from n)) parts
    ∙ ap (flat_map text) (range_split from (at - from) 1)
    ∙ flat_map-append text (range_with_len from (at - from)) ((from + (at - from)) ∷ [])
    ∙ ap (λ t. texts_from text from at ++ t) (append-nil (text (from + (at - from))) ∙ ap text there)

-- none of them
pub no_texts : (text : ℕ → List ℕ) (from : ℕ) → [] ≡ texts_from text from from
no_texts text from =
    let none : from - from ≡ 0 = omega arith in
    sym (ap (λ n. flat_map text (range_with_len from n)) none)
