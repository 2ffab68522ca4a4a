-- Lists told by number.
use Rattle.std.proofs.Common.{◌≡◌, ℕ, ◌+◌, ◌-◌, ◌<◌, ◌≤◌, List, length, get_or, set, refl, sym, ap, inl, inr, ◌∙◌, subst, arith}
use Rattle.std.specs.Prelude.{if◌then◌else◌, ◌==◌}
use Rattle.std.proofs.lemmas.Bool.{cases_eq, cases_lt}
use Rattle.std.proofs.lemmas.Bool.Decides.{nat_tests}
use Rattle.std.proofs.lemmas.List.{same_lists, length-set, get_or-set_same, get_or-set_other, get_or_default, get_or_past}
use Rattle.std.proofs.lemmas.List.FromFn.{length-map-range_with_len, get_or-map-range_with_len}
use Rattle.vt_screen.specs.Table.{table, nth}

pub length-table : {X : Type 0} (n : ℕ) (f : ℕ → X) → length (table n f) ≡ n
unfolding table
length-table n f = length-map-range_with_len f 1 n

pub get_or-table : {X : Type 0} (n : ℕ) (f : ℕ → X) (i : ℕ) (d : X) → i < n → get_or (table n f) i d ≡ f (i + 1)
unfolding table
get_or-table n f i d below = get_or-map-range_with_len f 1 n i (i + 1) d below (omega arith)

-- what nth reads
pub nth_is : {X : Type 0} (d : X) (xs : List X) (k : ℕ) → nth d xs k ≡ get_or xs (k - 1) d
unfolding nth
nth_is d xs k = refl

pub nth_next : {X : Type 0} (d : X) (xs : List X) (k : ℕ) → nth d xs (k + 1) ≡ get_or xs k d
nth_next d xs k = nth_is d xs (k + 1) ∙ ap (λ (i : ℕ). get_or xs i d) (omega arith)

pub nth-table : {X : Type 0} (d : X) (n : ℕ) (f : ℕ → X) (k : ℕ) → 1 ≤ k → k ≤ n → nth d (table n f) k ≡ f k
nth-table d n f k low high =
    nth_is d (table n f) k ∙ get_or-table n f (k - 1) d (omega arith) ∙ ap f (omega arith)

pub table_ext : {X : Type 0} (n : ℕ) (f g : ℕ → X) → ((k : ℕ) → 1 ≤ k → k ≤ n → f k ≡ g k) → table n f ≡ table n g
table_ext n f g same =
    same_lists (table n f) (table n g) (length-table n f ∙ sym (length-table n g)) (λ k d below.
    let within : k < n = omega (arith, length-table n f) in
    get_or-table n f k d within ∙ same (k + 1) (omega arith) (omega arith) ∙ sym (get_or-table n g k d within))

-- a list is the table g where g says what each element is
pub is_table : {X : Type 0} (d : X) (n : ℕ) (xs : List X) (g : ℕ → X) → length xs ≡ n → ((k : ℕ) → k < n → get_or xs k d ≡ g (k + 1)) → xs ≡ table n g
is_table d n xs g len each =
    same_lists xs (table n g) (len ∙ sym (length-table n g)) (λ k e below.
    let within : k < n = omega arith in
    get_or_default xs k e d below ∙ each k within ∙ sym (get_or-table n g k e within))

-- a list is the table of what stands in it
pub table_is : {X : Type 0} (d : X) (n : ℕ) (xs : List X) → length xs ≡ n → xs ≡ table n (nth d xs)
table_is d n xs len = is_table d n xs (nth d xs) len (λ k below. sym (nth_next d xs k))

-- a write, by number
pub get_or-set : {X : Type 0} (d : X) (xs : List X) (i : ℕ) (x : X) (k : ℕ) → i < length xs
    → get_or (set xs i x) k d ≡ (if k == i then x else get_or xs k d)
get_or-set d xs i x k below =
    let same = get_or-set_same xs i x d below in
    let other = get_or-set_other xs i k x d in
    elim (cases_eq k i) [ inl e ↦ grind (arith, nat_tests) | inr ne ↦ grind (arith, nat_tests) ]

pub set_is : {X : Type 0} (d : X) (n : ℕ) (xs : List X) (i : ℕ) (x : X) → length xs ≡ n → i < n
    → set xs i x ≡ table n (λ k. if k == i + 1 then x else nth d xs k)
set_is d n xs i x len below =
    is_table d n (set xs i x) (λ k. if k == i + 1 then x else nth d xs k) (length-set xs i x ∙ len) (λ k within.
    let old = nth_next d xs k in
    let new = get_or-set d xs i x k (omega arith) in
    elim (cases_eq k i) [ inl e ↦ grind (arith, nat_tests) | inr ne ↦ grind (arith, nat_tests) ])

-- what holds of each element and of the default holds at every number
pub nth_keeps : {X : Type 0} (P : X → Type 0) (d : X) (n : ℕ) (f : ℕ → X) → P d → ((k : ℕ) → 1 ≤ k → k ≤ n → P (f k))
    → (k : ℕ) → P (nth d (table n f) k)
nth_keeps P d n f none each k =
    elim (cases_lt (k - 1) n) [
      | inl within ↦ subst P (sym (nth_is d (table n f) k ∙ get_or-table n f (k - 1) d within)) (each (k - 1 + 1) (omega arith) (omega arith))
      | inr past ↦ subst P (sym (nth_is d (table n f) k ∙ get_or_past (table n f) (k - 1) d (omega (arith, length-table n f)))) none
    ]
