-- The texts of chunks, one after another.
use Rattle.std.proofs.Common.{◌≡◌, ℕ, zero, suc, ◌+◌, ◌-◌, ◌<◌, ◌≤◌, Bool, true, false, List, [], ◌∷◌, ◌++◌, filter, refl, ap, sym, ◌∙◌, arith, add-zero, append-nil}
use Rattle.std.specs.List.{flat_map, range_with_len}
use Rattle.std.proofs.lemmas.List.Concat.{flat_map-append}
use Rattle.std.proofs.lemmas.List.Elements.{filter-append}

-- ---- numbers that rise

-- numbers in two parts
pub range_split : (a m n : ℕ) → range_with_len a (m + n) ≡ range_with_len a m ++ range_with_len (a + m) n
range_split a zero n =
    let same : 0 + n ≡ n = omega arith in
    ap (range_with_len a) same ∙ ap (λ b. range_with_len b n) (sym (add-zero a))
range_split a (suc m) n =
    let longer : suc m + n ≡ suc (m + n) = omega arith in
    let there : a + 1 + m ≡ a + suc m = omega arith in
    ap (range_with_len a) longer ∙ ap (λ l. a ∷ l) (range_split (a + 1) m n ∙ ap (λ b. range_with_len (a + 1) m ++ range_with_len b n) there)

-- those that pass, where none does
pub none_in : (p : ℕ → Bool) (a n : ℕ) → ((i : ℕ) → a ≤ i → i < a + n → p i ≡ false) → filter p (range_with_len a n) ≡ []
none_in p a zero h = refl
none_in p a (suc n) h = rw (h a (omega arith) (omega arith)) (none_in p (a + 1) n (λ i low high. h i (omega arith) (omega arith)))

-- and where all do
all_in : (p : ℕ → Bool) (a n : ℕ) → ((i : ℕ) → a ≤ i → i < a + n → p i ≡ true) → filter p (range_with_len a n) ≡ range_with_len a n
all_in p a zero h = refl
all_in p a (suc n) h = rw (h a (omega arith) (omega arith)) (ap (λ l. a ∷ l) (all_in p (a + 1) n (λ i low high. h i (omega arith) (omega arith))))

-- those that pass lie between two places
pub passing_between : (p : ℕ → Bool) (start end n : ℕ) → start ≤ end → end ≤ n → ((i : ℕ) → i < start → p i ≡ false)
    → ((i : ℕ) → start ≤ i → i < end → p i ≡ true) → ((i : ℕ) → end ≤ i → i < n → p i ≡ false)
    → filter p (range_with_len 0 n) ≡ range_with_len start (end - start)
passing_between p start end n low high before inside past =
    let parts : start + ((end - start) + (n - end)) ≡ n = omega arith in
    let here : 0 + start ≡ start = omega arith in
    let there : start + (end - start) ≡ end = omega arith in
    let behind : filter p (range_with_len start ((end - start) + (n - end))) ≡ range_with_len start (end - start) =
    ap (filter p) (range_split start (end - start) (n - end)) ∙ filter-append p (range_with_len start (end - start)) (range_with_len (start + (end - start)) (n - end))
    ∙ ap (λ l. l ++ filter p (range_with_len (start + (end - start)) (n - end))) (all_in p start (end - start) (λ i a b. inside i a (omega arith)))
    ∙ ap (λ l. range_with_len start (end - start) ++ l) (none_in p (start + (end - start)) (n - end) (λ i a b. past i (omega arith) (omega arith)))
    ∙ append-nil (range_with_len start (end - start)) in
    ap (λ m. filter p (range_with_len 0 m)) (sym parts)
    ∙ ap (filter p) (range_split 0 start ((end - start) + (n - end)))
    ∙ filter-append p (range_with_len 0 start) (range_with_len (0 + start) ((end - start) + (n - end)))
    ∙ ap (λ l. l ++ filter p (range_with_len (0 + start) ((end - start) + (n - end)))) (none_in p 0 start (λ i a b. before i (omega arith)))
    ∙ ap (λ m. filter p (range_with_len m ((end - start) + (n - end)))) here
    ∙ behind

-- ---- chunk by chunk

-- the texts of so many chunks from one place on
abbrev pub texts_from : (ℕ → List ℕ) → ℕ → ℕ → List ℕ
texts_from f start n = flat_map f (range_with_len start n)

-- in two parts
texts_split : (f : ℕ → List ℕ) (start m n : ℕ) → texts_from f start (m + n) ≡ texts_from f start m ++ texts_from f (start + m) n
texts_split f start m n =
    ap (flat_map f) (range_split start m n) ∙ flat_map-append f (range_with_len start m) (range_with_len (start + m) n)

pub one_more : (f : ℕ → List ℕ) (start n : ℕ) → texts_from f start (n + 1) ≡ texts_from f start n ++ f (start + n)
one_more f start n = texts_split f start n 1 ∙ ap (λ l. texts_from f start n ++ l) (append-nil (f (start + n)))

pub texts_around : (f : ℕ → List ℕ) (start n all : ℕ) → n < all
    → texts_from f start all
    ≡ (texts_from f start n ++ f (start + n)) ++ texts_from f (start + (n + 1)) (all - (n + 1))
texts_around f start n all within =
    let parts : n + 1 + (all - (n + 1)) ≡ all = omega arith in
    ap (texts_from f start) (sym parts)
    ∙ texts_split f start (n + 1) (all - (n + 1))
    ∙ ap (λ l. l ++ texts_from f (start + (n + 1)) (all - (n + 1))) (one_more f start n)

-- the text of one chunk more
pub texts_more : (f : ℕ → List ℕ) (start index : ℕ) (here : List ℕ) → start ≤ index → here ≡ f index
    → texts_from f start (index - start) ++ here ≡ texts_from f start (index + 1 - start)
texts_more f start index here low is =
    let n = index - start in
    let at : start + n ≡ index = omega arith in
    let next : n + 1 ≡ index + 1 - start = omega arith in
    ap (λ l. texts_from f start n ++ l) (is ∙ ap f (sym at)) ∙ sym (one_more f start n) ∙ ap (texts_from f start) next

-- the texts before a chunk, its own, and those behind it
pub texts_cut : (f : ℕ → List ℕ) (start end index : ℕ) (here : List ℕ) → start ≤ index → index < end → here ≡ f index
    → texts_from f start (end - start) ≡ (texts_from f start (index - start) ++ here) ++ texts_from f (start + (index - start + 1)) (end - start - (index - start + 1))
texts_cut f start end index here low high is =
    let n = index - start in
    let at : start + n ≡ index = omega arith in
    let within : n < end - start = omega arith in
    texts_around f start n (end - start) within
    ∙ ap (λ l. (texts_from f start n ++ l) ++ texts_from f (start + (n + 1)) (end - start - (n + 1))) (sym (is ∙ ap f (sym at)))

-- the texts so far, and those that are left
pub texts_left : (f : ℕ → List ℕ) (start end index : ℕ) → start ≤ index → index ≤ end
    → texts_from f start (end - start) ≡ texts_from f start (index - start) ++ texts_from f (start + (index - start)) (end - start - (index - start))
texts_left f start end index low high =
    let n = index - start in
    let parts : n + (end - start - n) ≡ end - start = omega arith in
    ap (texts_from f start) (sym parts) ∙ texts_split f start n (end - start - n)
