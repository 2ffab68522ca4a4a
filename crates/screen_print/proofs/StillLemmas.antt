-- Stills: rows that are copied where they differ.
use Rattle.std.proofs.Common.{◌≡◌, ◌⊎◌, ℕ, zero, suc, ◌+◌, ◌-◌, ◌<◌, ◌≤◌, Bool, false, List, [], ◌∷◌, length, nat_eq, refl, get_or, set, subst, All, drop, filter, ap, sym, ◌∙◌, arith, inl, inr}
use Rattle.std.specs.List.{list_any, range_with_len}
use Rattle.std.proofs.lemmas.Bool.{cases_Bool, cases_eq, eq-eqb, false≢true, ne_eqb, not-false, or_from, or_parts}
use Rattle.std.proofs.lemmas.List.{drop_all, drop_more}
use Rattle.std.proofs.lemmas.List.Elements.{All-filter, All-get_or}
use Rattle.vt_screen.specs.declared.cell.Row.{Row}
use Rattle.vt_screen.specs.Cells.{row_at}
use Rattle.screen_rows.specs.SameRows.{changed_lines, is_changed, same_row}
use Rattle.screen_print.specs.Cover.{Cover, CoverAll}
use Rattle.screen_print.proofs.RowLemmas.{row_set_same, row_set_other}
use Rattle.screen_rows.proofs.SameLemmas.{same_row_decides}

-- a number is one of these, or something holds
abbrev pub IsIn : List ℕ → ℕ → Type 0 → Type 0
IsIn [] k P = P
IsIn (x ∷ xs) k P = (k ≡ x) ⊎ IsIn xs k P

in_any : {P : Type 0} (xs : List ℕ) (k : ℕ) → P → IsIn xs k P
in_any [] k p = p
in_any (x ∷ xs) k p = inr (in_any xs k p)

pub in_map : {P Q : Type 0} (xs : List ℕ) (k : ℕ) → (P → Q) → IsIn xs k P → IsIn xs k Q
in_map [] k f p = f p
in_map (x ∷ xs) k f (inl e) = inl e
in_map (x ∷ xs) k f (inr p) = inr (in_map xs k f p)

-- a number of a range passes, or is one that fails
in_filter : {P : Type 0} (p : ℕ → Bool) (a n k : ℕ) → a ≤ k → k < a + n → (p k ≡ false → P) → IsIn (filter p (range_with_len a n)) k P
in_filter p a zero k low high fails = absurd (omega arith)
in_filter p a (suc n) k low high fails = elim (cases_eq k a) [
  | inl e ↦ elim (cases_Bool (p a)) [
    | inl t ↦ rw t (inl e)
    | inr f ↦ rw f (in_any (filter p (range_with_len (a + 1) n)) k (fails (ap p e ∙ f)))
  ]
  | inr ne ↦
      let rest = in_filter p (a + 1) n k (omega arith) (omega arith) fails in
      elim (cases_Bool (p a)) [
        | inl t ↦ rw t (inr rest)
        | inr f ↦ rw f rest
      ]
]

-- the numbers of a range
pub in_range : (a n k d : ℕ) → k < n → (a ≤ get_or (range_with_len a n) k d) × (get_or (range_with_len a n) k d < a + n)
in_range a zero k d lt = absurd (omega arith)
in_range a (suc n) zero d lt = (omega arith, omega arith)
in_range a (suc n) (suc k) d lt =
    let h = in_range (a + 1) n k d (omega arith) in
    (omega (arith, h.0), omega (arith, h.1))

-- a number that isn't among these
unlisted : {P : Type 0} (lines : List ℕ) (k : ℕ) → list_any (λ n. nat_eq n k) lines ≡ false → IsIn lines k P → P
unlisted [] k none p = p
unlisted (x ∷ xs) k none (inl e) = absurd (false≢true (sym (or_parts (nat_eq x k) (list_any (λ n. nat_eq n k) xs) none).0 ∙ eq-eqb x k (sym e)))
unlisted {P = P} (x ∷ xs) k none (inr p) = unlisted {P = P} xs k (or_parts (nat_eq x k) (list_any (λ n. nat_eq n k) xs) none).1 p

-- a number is among these, or what holds where it isn't
pub listed_or : {P : Type 0} (lines : List ℕ) (k : ℕ) → (list_any (λ n. nat_eq n k) lines ≡ false → P) → IsIn lines k P
listed_or [] k p = p refl
listed_or {P = P} (x ∷ xs) k p = elim (cases_eq k x) [
  | inl e ↦ inl e
  | inr ne ↦ inr (listed_or {P = P} xs k (λ none. p (or_from (nat_eq x k) (list_any (λ n. nat_eq n k) xs) (ne_eqb x k (λ e. ne (sym e))) none)))
]

-- each number of a range is among them
none_outside : (a n k : ℕ) → a ≤ k → k < a + n → list_any (λ x. nat_eq x k) (range_with_len a n) ≡ false → ⊥
none_outside a zero k low high none = omega arith
none_outside a (suc n) k low high none =
    let parts = or_parts (nat_eq a k) (list_any (λ x. nat_eq x k) (range_with_len (a + 1) n)) none in
    elim (cases_eq k a) [
      | inl e ↦ false≢true (sym parts.0 ∙ eq-eqb a k (sym e))
      | inr ne ↦ none_outside (a + 1) n k (omega arith) (omega arith) parts.1
    ]

-- the lines that differ cover these
pub changed_cover : (before after : List Row) (lines : List ℕ) → lines ≡ changed_lines before after → Cover lines before after
unfolding changed_lines
changed_cover before after lines is = record {
  within = subst (All (λ x. (1 ≤ x) × (x < 25))) (sym is)
      (All-filter (is_changed before after) (λ x. (1 ≤ x) × (x < 25)) (range_with_len 1 24) (λ k d less. in_range 1 24 k d less));
  others = λ line low high none.
      unlisted lines line none
      (subst (λ l. IsIn l line (row_at before line ≡ row_at after line)) (sym is)
      (in_filter (is_changed before after) 1 24 line low (omega arith)
      (λ fails. (same_row_decides (row_at before line) (row_at after line)).0 (not-false (same_row (row_at before line) (row_at after line)) fails))));
}

-- so do all lines
pub all_cover : (lines : List ℕ) → lines ≡ range_with_len 1 24 → CoverAll lines
all_cover lines is before after = record {
  within = subst (All (λ x. (1 ≤ x) × (x < 25))) (sym is) (λ k d less. in_range 1 24 k d less);
  others = λ line low high none. absurd (none_outside 1 24 line low (omega arith) (subst (λ l. list_any (λ x. nat_eq x line) l ≡ false) is none));
}

pub line_within : (before after : List Row) (lines : List ℕ) (i : ℕ) → Cover lines before after → i < length lines
    → (1 ≤ get_or lines i 0) × (get_or lines i 0 < 25)
line_within before after lines i cover lt = All-get_or (λ x. (1 ≤ x) × (x < 25)) lines i 0 lt cover.within

-- a line is among them, or its rows are the same
pub differs_or_same : (before after : List Row) (lines : List ℕ) (k : ℕ) → Cover lines before after → 1 ≤ k → k ≤ 24 → IsIn lines k (row_at before k ≡ row_at after k)
differs_or_same before after lines k cover low high = listed_or lines k (cover.others k low high)

-- a row more is copied
pub copied_more : (rows other : List Row) (lines : List ℕ) (i line k : ℕ) (row : Row) → i < length lines
    → line ≡ get_or lines i line → 1 ≤ line → line ≤ length rows → 1 ≤ k
    → row ≡ row_at other line → IsIn (drop i lines) k (row_at rows k ≡ row_at other k) → IsIn (drop (i + 1) lines) k (row_at (set rows (line - 1) row) k ≡ row_at other k)
copied_more rows other lines i line k row lt is low high here same before =
    let cut : drop i lines ≡ line ∷ drop (i + 1) lines = drop_more lines i line lt ∙ ap (λ x. x ∷ drop (i + 1) lines) (sym is) in
    elim (cases_eq k line) [
      | inl e ↦ in_any (drop (i + 1) lines) k (ap (row_at (set rows (line - 1) row)) e ∙ row_set_same rows line row low high ∙ same ∙ ap (row_at other) (sym e))
      | inr ne ↦ elim (subst (λ l. IsIn l k (row_at rows k ≡ row_at other k)) cut before) [
        | inl e ↦ absurd (ne e)
        | inr rest ↦ in_map (drop (i + 1) lines) k (λ p. row_set_other rows line k row low here ne ∙ p) rest
      ]
    ]

pub copied_all : {P : Type 0} (lines : List ℕ) (i k : ℕ) → length lines ≤ i → IsIn (drop i lines) k P → P
copied_all {P = P} lines i k past p = subst (λ l. IsIn l k P) (drop_all i lines past) p

-- a line more of which something holds
pub listed_more : {P : Type 0} (lines : List ℕ) (i line k : ℕ) → i < length lines → line ≡ get_or lines i line
    → (k ≡ line → P) → IsIn (drop i lines) k P → IsIn (drop (i + 1) lines) k P
listed_more {P = P} lines i line k lt is here before =
    let cut : drop i lines ≡ line ∷ drop (i + 1) lines = drop_more lines i line lt ∙ ap (λ x. x ∷ drop (i + 1) lines) (sym is) in
    elim (subst (λ l. IsIn l k P) cut before) [
      | inl e ↦ in_any (drop (i + 1) lines) k (here e)
      | inr rest ↦ rest
    ]
