-- Due times rise, so the chunks that are due are the first ones.
use Rattle.std.proofs.Common.{◌≡◌, ℕ, zero, suc, ◌+◌, ◌<◌, ◌≤◌, Bool, true, false, cond, List, [], ◌∷◌, ◌++◌, length, take, drop, filter, nat_le, refl, ap, sym, ◌∙◌, arith, append_assoc, inl, inr, subst, ◌↔◌}
use Rattle.std.specs.List.{flat_map, range_with_len, sum_by}
use Rattle.std.specs.List.Sorted.{IsNonDecreasing, IsPartitionPoint}
use Rattle.std.proofs.lemmas.Bool.{both_ways, cases_lt, le-leb, leb-true, lt-leb}
use Rattle.std.proofs.lemmas.List.{drop-drop, take-take}
use Rattle.std.proofs.lemmas.List.Sums.{sum_by-take-le, length-filter}
use Rattle.std.proofs.lemmas.List.Sorted.{IsNonDecreasingBy-from_default}
use Rattle.tape_core.specs.declared.chunk.Chunk.{Chunk}
use Rattle.tape_core.specs.Tape.{body}
use Rattle.tape_core.specs.Due.{due_time, due_count, due, first, indices, bytes_at}
use Rattle.tape_core.specs.Kept.{AreDueTimes}

-- a test that passes up to a place and fails from there on keeps the front
pub filter_front : (p : ℕ → Bool) (a n m : ℕ) → m ≤ n → ((k : ℕ) → a ≤ k → k < a + m → p k ≡ true) → ((k : ℕ) → a + m ≤ k → k < a + n → p k ≡ false)
    → filter p (range_with_len a n) ≡ range_with_len a m
filter_front p a zero zero le in_front behind = refl
filter_front p a zero (suc m) le in_front behind = absurd (omega arith)
filter_front p a (suc n) zero le in_front behind =
    rw (behind a (omega arith) (omega arith)) (filter_front p (a + 1) n zero (omega arith) (λ k l h. absurd (omega arith)) (λ k l h. behind k (omega arith) (omega arith)))
filter_front p a (suc n) (suc m) le in_front behind =
    rw (in_front a (omega arith) (omega arith)) (ap (λ ks. a ∷ ks) (filter_front p (a + 1) n m (omega arith) (λ k l h. in_front k (omega arith) (omega arith)) (λ k l h. behind k (omega arith) (omega arith))))

pub length_range : (a n : ℕ) → length (range_with_len a n) ≡ n
length_range a zero = refl
length_range a (suc n) = ap suc (length_range (a + 1) n)

-- later chunks are due later
pub due_time_rises : (chunks : List Chunk) (i j : ℕ) → i ≤ j → due_time chunks i ≤ due_time chunks j
due_time_rises chunks i j le =
    let cut : take (i + 1) (take (j + 1) chunks) ≡ take (i + 1) chunks = grind (arith, take-take {A = Chunk}) in
    let part = sum_by-take-le (λ c. c.delay) (take (j + 1) chunks) (i + 1) in
    omega (arith, part, ap (sum_by (λ c. c.delay)) cut)

pub dues_rise : (chunks : List Chunk) (dues : List ℕ) → AreDueTimes chunks dues → IsNonDecreasing dues
dues_rise chunks dues are = IsNonDecreasingBy-from_default (λ d. d) dues 0 (λ i j le lt.
    let rises = due_time_rises chunks i j le in
    omega (arith, are.times i (omega (arith, are.one_each)), are.times j (omega (arith, are.one_each))))

-- the count that a search in the due times gives
pub counted : (chunks : List Chunk) (dues : List ℕ) (t n : ℕ) → AreDueTimes chunks dues → n ≤ length dues
    → IsPartitionPoint (λ d. d ≤ t) (λ d. t < d) dues n → n ≡ due_count chunks t
unfolding due_count
counted chunks dues t n are le point =
    let here : filter (λ i. nat_le (due_time chunks i) t) (range_with_len 0 (length chunks)) ≡ range_with_len 0 n =
    filter_front (λ i. nat_le (due_time chunks i) t) 0 (length chunks) n (omega (arith, are.one_each))
    (λ k l h. let here : k < n = omega arith in
    le-leb (due_time chunks k) t (omega (arith, are.one_each, are.times k (omega (arith, are.one_each)), point.0 k 0 l here)))
    (λ k l h. let here : n ≤ k = omega arith in
    lt-leb (due_time chunks k) t (omega (arith, are.one_each, are.times k (omega (arith, are.one_each)), point.1 k 0 here (omega (arith, are.one_each))))) in
    sym (sym (length-filter (λ i. nat_le (due_time chunks i) t) (indices chunks)) ∙ ap length here ∙ length_range 0 n)

-- the first m chunks, one place after another
first_more : (d : List Chunk) (m : ℕ) → body (take 1 d) ++ body (take m (drop 1 d)) ≡ body (take (suc m) d)
first_more [] zero = refl
first_more [] (suc m) = refl
first_more (c ∷ cs) m = append_assoc c.bytes [] (body (take m cs))

pub front_bytes : (chunks : List Chunk) (a m : ℕ) → flat_map (bytes_at chunks) (range_with_len a m) ≡ body (take m (drop a chunks))
front_bytes chunks a zero = refl
front_bytes chunks a (suc m) =
    ap (λ bytes. bytes_at chunks a ++ bytes) (front_bytes chunks (a + 1) m ∙ ap (λ cs. body (take m cs)) (sym (drop-drop 1 a chunks))) ∙ first_more (drop a chunks) m

module _ (p : ℕ → Bool) (rising : (i j : ℕ) → i ≤ j → p j ≡ true → p i ≡ true) where
  fails_from : (a k : ℕ) → p a ≡ false → a ≤ k → (t : Bool) → p k ≡ t → p k ≡ false
  fails_from a k is low true here = absurd (both_ways (p a) is (rising a k low here))
  fails_from a k is low false here = here

  fails_behind : (a n : ℕ) → p a ≡ false → filter p (range_with_len (a + 1) n) ≡ []
  fails_behind a n is = filter_front p (a + 1) n 0 (omega arith) (λ k low high. absurd (omega arith)) (λ k low high. fails_from a k is (omega arith) (p k) refl)

  rising_step : (a n : ℕ) (t : Bool) → p a ≡ t
      → filter p (range_with_len (a + 1) n) ≡ range_with_len (a + 1) (length (filter p (range_with_len (a + 1) n)))
      → cond t (a ∷ filter p (range_with_len (a + 1) n)) (filter p (range_with_len (a + 1) n)) ≡ range_with_len a (length (cond t (a ∷ filter p (range_with_len (a + 1) n)) (filter p (range_with_len (a + 1) n))))
  rising_step a n true is more = ap (λ ks. a ∷ ks) more
  rising_step a n false is more = rw (fails_behind a n is) refl

  -- a test that passes before it fails keeps the front
  pub rising_front : (a n : ℕ) → filter p (range_with_len a n) ≡ range_with_len a (length (filter p (range_with_len a n)))
  rising_front a zero = refl
  rising_front a (suc n) = rising_step a n (p a) refl (rising_front (a + 1) n)

  below_step : (a n i : ℕ) (t : Bool) → p a ≡ t → a ≤ i → (a + 1 ≤ i → ((p i ≡ true) ↔ (i < a + 1 + length (filter p (range_with_len (a + 1) n)))))
      → (p i ≡ true) ↔ (i < a + length (cond t (a ∷ filter p (range_with_len (a + 1) n)) (filter p (range_with_len (a + 1) n))))
  below_step a n i true is low more =
      elim (cases_lt a i) [
        | inl lt ↦ let rest = more (omega arith) in (λ here. omega (arith, rest.0 here), λ lt. rest.1 (omega arith))
        | inr ge ↦ let same : a ≡ i = omega arith in (λ here. omega arith, λ lt. subst (λ k. p k ≡ true) same is)
      ]
  below_step a n i false is low more =
      let none : filter p (range_with_len (a + 1) n) ≡ [] = fails_behind a n is in
      (λ here. absurd (both_ways (p a) is (rising a i low here)), λ lt. absurd (omega (arith, ap length none)))

  -- a place passes just where it is below the number of those that pass
  pub below_front : (a n i : ℕ) → a ≤ i → i < a + n → (p i ≡ true) ↔ (i < a + length (filter p (range_with_len a n)))
  below_front a zero i low high = absurd (omega arith)
  below_front a (suc n) i low high = below_step a n i (p a) refl low (λ le. below_front (a + 1) n i le (omega arith))

-- whether a chunk is due by a moment
abbrev is_due : List Chunk → ℕ → ℕ → Bool
is_due chunks t i = nat_le (due_time chunks i) t

is_due_before : (chunks : List Chunk) (t i j : ℕ) → i ≤ j → is_due chunks t j ≡ true → is_due chunks t i ≡ true
is_due_before chunks t i j le late = le-leb (due_time chunks i) t (omega (arith, due_time_rises chunks i j le, leb-true (due_time chunks j) t late))

-- a chunk is due just where its place is below the count
pub due_below : (chunks : List Chunk) (t i : ℕ) → i < length chunks → (due_time chunks i ≤ t) ↔ (i < due_count chunks t)
unfolding due_count
due_below chunks t i lt =
    let at = below_front (is_due chunks t) (is_due_before chunks t) 0 (length chunks) i (omega arith) (omega arith) in
    let count = length-filter (is_due chunks t) (indices chunks) in
    (λ le. omega (arith, at.0 (le-leb (due_time chunks i) t le), count), λ below. leb-true (due_time chunks i) t (at.1 (omega (arith, count))))

-- the bytes due are those of the first chunks
pub due_first : (chunks : List Chunk) (t : ℕ) → due chunks t ≡ first chunks (due_count chunks t)
unfolding due due_count
due_first chunks t =
    ap (flat_map (bytes_at chunks)) (rising_front (is_due chunks t) (is_due_before chunks t) 0 (length chunks))
    ∙ front_bytes chunks 0 (length (filter (is_due chunks t) (indices chunks)))
    ∙ ap (λ n. body (take n chunks)) (length-filter (is_due chunks t) (indices chunks))
