-- Lists told by number, and rows by line.
use Rattle.std.proofs.Common.{◌≡◌, ℕ, zero, suc, ◌+◌, ◌-◌, ◌<◌, ◌≤◌, List, [], length, get_or, set, refl, sym, ap, inl, inr, ◌∙◌, arith, add-one}
use Rattle.std.specs.Prelude.{if◌then◌else◌, ◌==◌}
use Rattle.std.proofs.lemmas.Bool.{cases_eq, cases_lt}
use Rattle.std.proofs.lemmas.Bool.Decides.{nat_tests}
use Rattle.std.proofs.lemmas.List.{same_lists, get_or-set_same, get_or-set_other, get_or_default, get_or_past}
use Rattle.std.proofs.lemmas.List.FromFn.{length-map-range_with_len, get_or-map-range_with_len}
use Rattle.sheet.specs.Cells.{Cell}
use Rattle.sheet.specs.Table.{table, nth}
use Rattle.sheet.specs.Grid.{row_at, with_row}

pub length-table : {X : Type 0} (n : ℕ) (f : ℕ → X) → length (table n f) ≡ n
unfolding table
length-table n f = length-map-range_with_len f 1 n

pub get_or-table : {X : Type 0} (n : ℕ) (f : ℕ → X) (i : ℕ) (d : X) → i < n → get_or (table n f) i d ≡ f (i + 1)
unfolding table
get_or-table n f i d below = get_or-map-range_with_len f 1 n i (i + 1) d below (omega arith)

pub nth_next : {X : Type 0} (d : X) (xs : List X) (k : ℕ) → nth d xs (k + 1) ≡ get_or xs k d
unfolding nth
nth_next d xs k = rw add-one refl

pub nth_none : {X : Type 0} (d : X) (xs : List X) → nth d xs 0 ≡ d
unfolding nth
nth_none d xs = refl

pub nth_is : {X : Type 0} (d : X) (xs : List X) (k : ℕ) → 1 ≤ k → nth d xs k ≡ get_or xs (k - 1) d
nth_is d xs k low = let e : k ≡ k - 1 + 1 = omega arith in ap (nth d xs) e ∙ nth_next d xs (k - 1)

pub nth-table : {X : Type 0} (d : X) (n : ℕ) (f : ℕ → X) (k : ℕ) → 1 ≤ k → k ≤ n → nth d (table n f) k ≡ f k
nth-table d n f k low high =
    nth_is d (table n f) k low ∙ get_or-table n f (k - 1) d (omega arith) ∙ ap f (omega arith)

-- a list of one element alone, with that as the default too
pub nth_same : {X : Type 0} (x : X) (n k : ℕ) → nth x (table n (λ _. x)) k ≡ x
nth_same x n zero = nth_none x (table n (λ _. x))
nth_same x n (suc k) =
    elim (cases_lt n (suc k)) [
      | inl past ↦ nth_is x (table n (λ _. x)) (suc k) (omega arith) ∙ get_or_past (table n (λ _. x)) (suc k - 1) x (omega (arith, length-table n (λ (_ : ℕ). x)))
      | inr within ↦ nth-table x n (λ _. x) (suc k) (omega arith) within
    ]

pub table_ext : {X : Type 0} (n : ℕ) (f g : ℕ → X) → ((k : ℕ) → 1 ≤ k → k ≤ n → f k ≡ g k) → table n f ≡ table n g
table_ext n f g same =
    same_lists (table n f) (table n g) (length-table n f ∙ sym (length-table n g)) (λ k d below.
    let within : k < n = omega (arith, length-table n f) in
    get_or-table n f k d within ∙ same (k + 1) (omega arith) (omega arith) ∙ sym (get_or-table n g k d within))

-- a list is the table g where g says what each element is
pub is_table : {X : Type 0} (d : X) (n : ℕ) (xs : List X) (g : ℕ → X) → length xs ≡ n
    → ((k : ℕ) → 1 ≤ k → k ≤ n → nth d xs k ≡ g k) → xs ≡ table n g
is_table d n xs g len each =
    same_lists xs (table n g) (len ∙ sym (length-table n g)) (λ k e below.
    let within : k < n = omega arith in
    get_or_default xs k e d below ∙ sym (nth_next d xs k) ∙ each (k + 1) (omega arith) (omega arith) ∙ sym (get_or-table n g k e within))

-- a write, by number
pub get_or-set : {X : Type 0} (d : X) (xs : List X) (i : ℕ) (x : X) (k : ℕ) → i < length xs
    → get_or (set xs i x) k d ≡ (if k == i then x else get_or xs k d)
get_or-set d xs i x k below =
    let same = get_or-set_same xs i x d below in
    let other = get_or-set_other xs i k x d in
    elim (cases_eq k i) [ inl e ↦ grind (arith, nat_tests) | inr ne ↦ grind (arith, nat_tests) ]

pub nth-set : {X : Type 0} (d : X) (xs : List X) (i : ℕ) (x : X) (k : ℕ) → i < length xs → 1 ≤ k
    → nth d (set xs i x) k ≡ (if k == i + 1 then x else nth d xs k)
nth-set d xs i x k below low =
    let old = nth_is d xs k low in
    let new = nth_is d (set xs i x) k low in
    let written = get_or-set d xs i x (k - 1) below in
    grind (arith, nat_tests)

-- the row that was put at a line
pub row_put : (at : ℕ) (row : List Cell) (rows : List (List Cell)) → 1 ≤ at → at ≤ length rows → row_at (with_row at row rows) at ≡ row
row_put at row rows low high = nth-table [] (length rows) (λ line. if line == at then row else row_at rows line) at low high ∙ itself at row (row_at rows at)
  where
    itself : (k : ℕ) (x y : List Cell) → (if k == k then x else y) ≡ x
    itself k x y = grind (arith, nat_tests)

-- of two rows put at a line the second one stays
pub with_row_twice : (at : ℕ) (x y : List Cell) (rows : List (List Cell)) → with_row at x (with_row at y rows) ≡ with_row at x rows
with_row_twice at x y rows =
    ap (λ (n : ℕ). table n (λ k. if k == at then x else row_at (with_row at y rows) k)) (length-table (length rows) (λ line. if line == at then y else row_at rows line))
    ∙ table_ext (length rows) _ _ (λ k low high.
    let was = nth-table [] (length rows) (λ line. if line == at then y else row_at rows line) k low high in
    elim (cases_eq k at) [ inl e ↦ grind (arith, nat_tests) | inr ne ↦ grind (arith, nat_tests) ])

-- a row put where it stands changes nothing
pub with_row_same : (at : ℕ) (rows : List (List Cell)) → rows ≡ with_row at (row_at rows at) rows
with_row_same at rows = is_table [] (length rows) rows _ refl (λ k low high.
    elim (cases_eq k at) [ inl e ↦ (let same = ap (row_at rows) e in grind (arith, nat_tests)) | inr ne ↦ grind (arith, nat_tests) ])

-- a list that a loop wrote, element by element
pub filled_table : {X : Type 0} (d : X) (n : ℕ) (xs : List X) (g : ℕ → X) → length xs ≡ n → ((k : ℕ) → k < n → get_or xs k d ≡ g (k + 1)) → xs ≡ table n g
filled_table d n xs g len each = is_table d n xs g len (λ k low high.
    nth_is d xs k low ∙ each (k - 1) (omega arith) ∙ ap g (let e : k - 1 + 1 ≡ k = omega arith in e))
