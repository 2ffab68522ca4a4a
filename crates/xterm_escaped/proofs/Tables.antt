-- Lists told by number.
use Rattle.std.proofs.Common.{◌≡◌, ℕ, ◌+◌, ◌-◌, ◌<◌, ◌≤◌, List, length, get_or, refl, sym, ap, ◌∙◌, arith, add-one}
use Rattle.std.proofs.lemmas.List.{same_lists, get_or_default, get_or_past}
use Rattle.std.proofs.lemmas.List.FromFn.{length-map-range_with_len, get_or-map-range_with_len}
use Rattle.sheet.specs.Table.{table, nth}

pub length-table : {X : Type 0} (n : ℕ) (f : ℕ → X) → length (table n f) ≡ n
unfolding table
length-table n f = length-map-range_with_len f 1 n

get_or-table : {X : Type 0} (n : ℕ) (f : ℕ → X) (i : ℕ) (d : X) → i < n → get_or (table n f) i d ≡ f (i + 1)
unfolding table
get_or-table n f i d below = get_or-map-range_with_len f 1 n i (i + 1) d below (omega arith)

-- what nth reads
pub nth_next : {X : Type 0} (d : X) (xs : List X) (k : ℕ) → nth d xs (k + 1) ≡ get_or xs k d
unfolding nth
nth_next d xs k = rw add-one refl

pub nth_none : {X : Type 0} (d : X) (xs : List X) → nth d xs 0 ≡ d
unfolding nth
nth_none d xs = refl

pub nth_is : {X : Type 0} (d : X) (xs : List X) (k : ℕ) → 1 ≤ k → nth d xs k ≡ get_or xs (k - 1) d
nth_is d xs k low = let e : k ≡ k - 1 + 1 = omega arith in ap (nth d xs) e ∙ nth_next d xs (k - 1)

pub nth_past : {X : Type 0} (d : X) (xs : List X) (k : ℕ) → length xs < k → nth d xs k ≡ d
nth_past d xs k past = nth_is d xs k (omega arith) ∙ get_or_past xs (k - 1) d (omega arith)

pub nth-table : {X : Type 0} (d : X) (n : ℕ) (f : ℕ → X) (k : ℕ) → 1 ≤ k → k ≤ n → nth d (table n f) k ≡ f k
nth-table d n f k low high =
    nth_is d (table n f) k low ∙ get_or-table n f (k - 1) d (omega arith) ∙ ap f (omega arith)

pub table_ext : {X : Type 0} (n : ℕ) (f g : ℕ → X) → ((k : ℕ) → 1 ≤ k → k ≤ n → f k ≡ g k) → table n f ≡ table n g
table_ext n f g same =
    same_lists (table n f) (table n g) (length-table n f ∙ sym (length-table n g)) (λ k d below.
    let within : k < n = omega (arith, length-table n f) in
    get_or-table n f k d within ∙ same (k + 1) (omega arith) (omega arith) ∙ sym (get_or-table n g k d within))

-- a list is the table of what stands in it
pub table_is : {X : Type 0} (d : X) (xs : List X) → xs ≡ table (length xs) (nth d xs)
table_is d xs =
    same_lists xs (table (length xs) (nth d xs)) (sym (length-table (length xs) (nth d xs))) (λ k e below.
    get_or_default xs k e d below ∙ sym (nth_next d xs k) ∙ sym (get_or-table (length xs) (nth d xs) k e below))
