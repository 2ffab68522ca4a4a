-- Numbers that rise.
use Rattle.std.proofs.Common.{◌≡◌, ℕ, zero, suc, ◌+◌, [], ◌∷◌, ◌++◌, ap, sym, ◌∙◌, arith, add-zero, add-one}
use Rattle.std.specs.List.{range_with_len}

-- the numbers from one on, and the next
pub range_more : (a n : ℕ) → range_with_len a (n + 1) ≡ range_with_len a n ++ (a + n) ∷ []
range_more a zero = ap (λ m. m ∷ []) (sym (add-zero a))
range_more a (suc n) =
    let next : a + 1 + n ≡ a + suc n = omega arith in
    ap (range_with_len a) (add-one (suc n))
    ∙ ap (λ l. a ∷ l) (ap (range_with_len (a + 1)) (sym (add-one n)) ∙ range_more (a + 1) n ∙ ap (λ m. range_with_len (a + 1) n ++ m ∷ []) next)

-- numbers in two parts
pub range_split : (a m n : ℕ) → range_with_len a (m + n) ≡ range_with_len a m ++ range_with_len (a + m) n
range_split a zero n =
    let same : 0 + n ≡ n = omega arith in
    ap (range_with_len a) same ∙ ap (λ b. range_with_len b n) (sym (add-zero a))
range_split a (suc m) n =
    let longer : suc m + n ≡ suc (m + n) = omega arith in
    let there : a + 1 + m ≡ a + suc m = omega arith in
    ap (range_with_len a) longer ∙ ap (λ l. a ∷ l) (range_split (a + 1) m n ∙ ap (λ b. range_with_len (a + 1) m ++ range_with_len b n) there)
