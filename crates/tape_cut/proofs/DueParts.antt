-- What is due of chunks that stand one behind another.
use Rattle.std.proofs.Common.{◌≡◌, ℕ, zero, suc, ◌+◌, ◌-◌, ◌<◌, ◌≤◌, List, [], ◌∷◌, ◌++◌, length, take, drop, nat_le, refl, ap, sym, ◌∙◌, arith, append_assoc, inl, inr, subst}
use Rattle.std.proofs.lemmas.Bool.{cases_lt}
use Rattle.std.proofs.lemmas.List.Sums.{sum_by-cons, count_by-le-length}
use Rattle.tape_core.specs.declared.chunk.Chunk.{Chunk}
use Rattle.tape_core.specs.Tape.{body}
use Rattle.tape_core.specs.Due.{due_time, due_count, due, first, play_length, indices}
use Rattle.tape_core.proofs.DueLemmas.{due_below, due_first, length_range}

-- ---- how many chunks are due, one chunk more at the front

pub count_within : (chunks : List Chunk) (t : ℕ) → due_count chunks t ≤ length chunks
unfolding due_count
count_within chunks t =
    omega (arith, count_by-le-length (λ i. nat_le (due_time chunks i) t) (indices chunks), length_range 0 (length chunks))

-- it is the place up to which chunks are due, and behind which none is
count_is : (chunks : List Chunk) (t n : ℕ) → n ≤ length chunks → ((i : ℕ) → i < n → due_time chunks i ≤ t)
    → (n < length chunks → t < due_time chunks n) → due_count chunks t ≡ n
count_is chunks t n within before after =
    let count = due_count chunks t in
    let most = count_within chunks t in
    elim (cases_lt count n) [
      | inl lt ↦ let below = (due_below chunks t count (omega arith)).0 (before count lt) in absurd (omega (arith, below))
      | inr ge ↦ elim (cases_lt n count) [
        | inl lt ↦ let here = (due_below chunks t n (omega arith)).1 lt in absurd (omega (arith, here, after (omega arith)))
        | inr le ↦ omega arith
      ]
    ]

time_next : (c : Chunk) (cs : List Chunk) (i : ℕ) → due_time (c ∷ cs) (suc i) ≡ c.delay + due_time cs i
time_next c cs i =
    let next : suc i + 1 ≡ suc (i + 1) = omega arith in
    ap (λ n. play_length (take n (c ∷ cs))) next ∙ sum_by-cons (λ x. x.delay) c (take (i + 1) cs)

count_nil : (t : ℕ) → due_count [] t ≡ 0
unfolding due_count
count_nil t = refl

count_late : (c : Chunk) (cs : List Chunk) (t : ℕ) → t < c.delay → due_count (c ∷ cs) t ≡ 0
count_late c cs t late = count_is (c ∷ cs) t 0 (omega arith) (λ i lt. absurd (omega arith)) (λ some. omega arith)

due_so_far : (c : Chunk) (cs : List Chunk) (t i : ℕ) → c.delay ≤ t → i < suc (due_count cs (t - c.delay)) → due_time (c ∷ cs) i ≤ t
due_so_far c cs t zero le lt = omega arith
due_so_far c cs t (suc i) le lt =
    let most = count_within cs (t - c.delay) in
    let here = (due_below cs (t - c.delay) i (omega arith)).1 (omega arith) in
    omega (arith, here, time_next c cs i)

count_more : (c : Chunk) (cs : List Chunk) (t : ℕ) → c.delay ≤ t → due_count (c ∷ cs) t ≡ suc (due_count cs (t - c.delay))
count_more c cs t le =
    let count = due_count cs (t - c.delay) in
    let most = count_within cs (t - c.delay) in
    count_is (c ∷ cs) t (suc count) (omega arith) (λ i lt. due_so_far c cs t i le lt) (λ some.
    let next = time_next c cs count in
    elim (cases_lt t (c.delay + due_time cs count)) [
      | inl lt ↦ omega arith
      | inr ge ↦ let below = (due_below cs (t - c.delay) count (omega arith)).0 (omega arith) in absurd (omega (arith, below))
    ])

-- ---- what is due, one chunk more at the front

due_nil : (t : ℕ) → due [] t ≡ []
unfolding due
due_nil t = refl

due_late : (c : Chunk) (cs : List Chunk) (t : ℕ) → t < c.delay → due (c ∷ cs) t ≡ []
due_late c cs t late = due_first (c ∷ cs) t ∙ ap (first (c ∷ cs)) (count_late c cs t late)

pub due_more : (c : Chunk) (cs : List Chunk) (t : ℕ) → c.delay ≤ t → due (c ∷ cs) t ≡ c.bytes ++ due cs (t - c.delay)
due_more c cs t le =
    due_first (c ∷ cs) t ∙ ap (first (c ∷ cs)) (count_more c cs t le) ∙ ap (λ bytes. c.bytes ++ bytes) (sym (due_first cs (t - c.delay)))

-- the first of them, if there is one, is due later than this
abbrev pub IsLate : ℕ → List Chunk → Type 0
IsLate t [] = Unit {0}
IsLate t (c ∷ cs) = t < c.delay

pub nothing_due : (t : ℕ) (chunks : List Chunk) → IsLate t chunks → due chunks t ≡ []
nothing_due t [] late = due_nil t
nothing_due t (c ∷ cs) late = due_late c cs t late

pub late_before : (s t : ℕ) (chunks : List Chunk) → s ≤ t → IsLate t chunks → IsLate s chunks
late_before s t [] le late = tt
late_before s t (c ∷ cs) le late = omega arith

-- ---- in parts

pub due_behind : (xs ys : List Chunk) (t : ℕ) → play_length xs ≤ t → due (xs ++ ys) t ≡ body xs ++ due ys (t - play_length xs)
due_behind [] ys t le = let same : t ≡ t - 0 = omega arith in ap (due ys) same
due_behind (c ∷ xs) ys t le =
    let len = sum_by-cons (λ x. x.delay) c xs in
    let left : t - c.delay - play_length xs ≡ t - play_length (c ∷ xs) = omega arith in
    due_more c (xs ++ ys) t (omega arith) ∙ ap (λ bytes. c.bytes ++ bytes) (due_behind xs ys (t - c.delay) (omega arith))
    ∙ sym (append_assoc c.bytes (body xs) (due ys (t - c.delay - play_length xs)))
    ∙ ap (λ s. (c.bytes ++ body xs) ++ due ys s) left

pub due_before : (xs ys : List Chunk) (t : ℕ) → t < play_length xs → due (xs ++ ys) t ≡ due xs t
due_before [] ys t lt = absurd (omega arith)
due_before (c ∷ xs) ys t lt =
    let len = sum_by-cons (λ x. x.delay) c xs in
    elim (cases_lt t c.delay) [
      | inl late ↦ due_late c (xs ++ ys) t late ∙ sym (due_late c xs t late)
      | inr le ↦
          due_more c (xs ++ ys) t le ∙ ap (λ bytes. c.bytes ++ bytes) (due_before xs ys (t - c.delay) (omega arith))
          ∙ sym (due_more c xs t le)
    ]

-- The first chunks up to this place are due by the moment, and the others are late.
abbrev pub IsPlace : List Chunk → ℕ → ℕ → Type 0
IsPlace chunks t n = (play_length (take n chunks) ≤ t) × IsLate (t - play_length (take n chunks)) (drop n chunks)

place_none : (chunks : List Chunk) (t : ℕ) → IsLate t chunks → IsPlace chunks t 0
place_none chunks t late =
    let same : t ≡ t - 0 = omega arith in (omega arith, subst (λ s. IsLate s chunks) same late)

place_more : (c : Chunk) (cs : List Chunk) (t n : ℕ) → c.delay ≤ t → IsPlace cs (t - c.delay) n → IsPlace (c ∷ cs) t (suc n)
place_more c cs t n le place =
    let len = sum_by-cons (λ x. x.delay) c (take n cs) in
    let left : t - c.delay - play_length (take n cs) ≡ t - play_length (c ∷ take n cs) = omega arith in
    (omega (arith, place.0), subst (λ s. IsLate s (drop n cs)) left place.1)

pub due_place : (chunks : List Chunk) (t : ℕ) → IsPlace chunks t (due_count chunks t)
due_place [] t = subst (IsPlace [] t) (sym (count_nil t)) (place_none [] t tt)
due_place (c ∷ cs) t =
    elim (cases_lt t c.delay) [
      | inl late ↦ subst (IsPlace (c ∷ cs) t) (sym (count_late c cs t late)) (place_none (c ∷ cs) t late)
      | inr le ↦ subst (IsPlace (c ∷ cs) t) (sym (count_more c cs t le)) (place_more c cs t (due_count cs (t - c.delay)) le (due_place cs (t - c.delay)))
    ]

pub count_rises : (chunks : List Chunk) (s t : ℕ) → s ≤ t → due_count chunks s ≤ due_count chunks t
count_rises chunks s t le =
    let early = due_count chunks s in
    let late = due_count chunks t in
    let most = count_within chunks s in
    elim (cases_lt late early) [
      | inl lt ↦
          let by_then = (due_below chunks s late (omega arith)).1 lt in
          let below = (due_below chunks t late (omega arith)).0 (omega arith) in
          absurd (omega (arith, below))
      | inr ge ↦ ge
    ]
