-- Cells to the last one that isn't blank.
use Rattle.std.proofs.Common.{◌≡◌, ℕ, zero, suc, ◌+◌, ◌-◌, ◌<◌, ◌≤◌, Bool, true, false, List, length, take, get_or, refl, sym, ap, subst, ◌⊎◌, inl, inr, ◌∙◌, arith}
use Rattle.std.specs.List.{suffix_len}
use Rattle.std.proofs.lemmas.Bool.{cases_eq, cases_lt}
use Rattle.std.proofs.lemmas.List.{take_all}
use Rattle.std.proofs.lemmas.List.Sums.{suffix_len-take_yes, suffix_len-take_no}
use Rattle.vt_screen.specs.declared.cell.Row.{Row}
use Rattle.vt_screen.specs.Cells.{blank, cell_at}
use Rattle.vt_screen.specs.Table.{nth}
use Rattle.screen_rows.specs.Ink.{is_blank}
use Rattle.screen_rows.proofs.SameLemmas.{same_cell_decides}

pub true_or_false : (b : Bool) → (b ≡ true) ⊎ (b ≡ false)
true_or_false true = inl refl
true_or_false false = inr refl

module _ {X : Type 0} (p : X → Bool) (xs : List X) (d : X) where
  -- what stands in the longest tail that passes
  tail_passes_to : (n : ℕ) → n ≤ length xs → (k : ℕ) → n - suffix_len p (take n xs) ≤ k → k < n → p (get_or xs k d) ≡ true
  tail_passes_to zero within k from below = absurd (omega arith)
  tail_passes_to (suc n) within k from below =
      let at_last : n ≡ suc n - 1 = omega arith in
      elim (true_or_false (p (get_or xs n d))) [
        | inl passes ↦
            (let one = suffix_len-take_yes p xs (suc n) d (omega arith) within (ap (λ i. p (get_or xs i d)) (sym at_last) ∙ passes) in
            let rest : suffix_len p (take (suc n - 1) xs) ≡ suffix_len p (take n xs) = ap (λ i. suffix_len p (take i xs)) (sym at_last) in
            elim (cases_eq k n) [
              | inl e ↦ ap (λ i. p (get_or xs i d)) e ∙ passes
              | inr ne ↦ tail_passes_to n (omega arith) k (omega arith) (omega arith)
            ])
        | inr fails ↦
            (let none = suffix_len-take_no p xs (suc n) d (omega arith) within (ap (λ i. p (get_or xs i d)) (sym at_last) ∙ fails) in
            absurd (omega arith))
      ]

  -- a tail that passes is no longer than the longest
  tail_is_longest_to : (n : ℕ) → n ≤ length xs → (from : ℕ) → ((k : ℕ) → from ≤ k → k < n → p (get_or xs k d) ≡ true)
      → n - suffix_len p (take n xs) ≤ from
  tail_is_longest_to zero within from all = omega arith
  tail_is_longest_to (suc n) within from all =
      let at_last : n ≡ suc n - 1 = omega arith in
      elim (cases_lt n from) [
        | inl before ↦ omega arith
        | inr after ↦
            (let passes = all n after (omega arith) in
            let one = suffix_len-take_yes p xs (suc n) d (omega arith) within (ap (λ i. p (get_or xs i d)) (sym at_last) ∙ passes) in
            let rest : suffix_len p (take (suc n - 1) xs) ≡ suffix_len p (take n xs) = ap (λ i. suffix_len p (take i xs)) (sym at_last) in
            let front = tail_is_longest_to n (omega arith) from (λ k low high. all k low (omega arith)) in
            omega arith)
      ]

  whole : take (length xs) xs ≡ xs
  whole = take_all (length xs) xs (omega arith)

  pub tail_passes : (k : ℕ) → length xs - suffix_len p xs ≤ k → k < length xs → p (get_or xs k d) ≡ true
  tail_passes k from below =
      tail_passes_to (length xs) (omega arith) k (subst (λ ys. length xs - suffix_len p ys ≤ k) (sym whole) from) below

  pub tail_is_longest : (from : ℕ) → ((k : ℕ) → from ≤ k → k < length xs → p (get_or xs k d) ≡ true) → length xs - suffix_len p xs ≤ from
  tail_is_longest from all =
      subst (λ ys. length xs - suffix_len p ys ≤ from) whole (tail_is_longest_to (length xs) (omega arith) from all)

-- the cell at a column, and one place further
pub cell_is : (row : Row) (column : ℕ) → cell_at row column ≡ get_or row.cells (column - 1) blank
unfolding nth
cell_is row column = refl

pub cell_next : (row : Row) (k : ℕ) → cell_at row (k + 1) ≡ get_or row.cells k blank
cell_next row k = cell_is row (k + 1) ∙ ap (λ (i : ℕ). get_or row.cells i blank) (omega arith)

-- how many cells are left without the blank ones at their end
abbrev pub ink : Row → ℕ
ink row = length row.cells - suffix_len is_blank row.cells

-- the cells right of them are blank ..
pub blank_past_ink : (row : Row) → length row.cells ≡ 132 → (column : ℕ) → ink row < column → column ≤ 132 → cell_at row column ≡ blank
blank_past_ink row full column past within =
    let passes : is_blank (get_or row.cells (column - 1) blank) ≡ true = tail_passes is_blank row.cells blank (column - 1) (omega arith) (omega arith) in
    cell_is row column ∙ (same_cell_decides (get_or row.cells (column - 1) blank) blank).0 passes

-- .. and where all cells right of a column are blank, there are no more than that
pub ink_within : (row : Row) → length row.cells ≡ 132 → (margin : ℕ)
    → ((column : ℕ) → margin < column → cell_at row column ≡ blank) → ink row ≤ margin
ink_within row full margin right =
    tail_is_longest is_blank row.cells blank margin
    (λ k low high. ap is_blank (sym (cell_next row k) ∙ right (k + 1) (omega arith)))
