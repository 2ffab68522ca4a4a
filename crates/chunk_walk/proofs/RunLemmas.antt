-- Numbers that follow each other by one, and the text that has them all up to 99.
use Rattle.std.proofs.Common.{◌≡◌, ℕ, zero, suc, ◌+◌, ◌-◌, ◌*◌, ◌<◌, ◌≤◌, List, [], ◌∷◌, ◌++◌, length, get_or, take, drop, refl, ap, ap₂, sym, ◌∙◌, arith, length-append}
use Rattle.std.proofs.Math.Seq.{drop-append_seam, take-append_seam}
use Rattle.std.proofs.lemmas.List.{length-drop, length-take-le, take_more}
use Rattle.std.proofs.lemmas.List.Concat.{flat_map-append}
use Rattle.std.specs.Fmt.{decimal, digits}
use Rattle.std.specs.List.{flat_map, range_with_len}
use Rattle.itoa.proofs.Decimal.{length_one, length_two}
use Rattle.chunk_walk.specs.ChangeLine.{spaced_number}
use Rattle.chunk_walk.specs.Runs.{run_text}
use Rattle.chunk_walk.specs.declared.change_line.TheConstants.{SMALL}
use Rattle.chunk_walk.proofs.ChangeLemmas.{numbers_split}
use Rattle.chunk_walk.proofs.TextLemmas.{range_split}

-- the text has the numbers up to 99
small_is : SMALL ≡ run_text 0 100
unfolding run_text digits
small_is = refl

-- a run in two parts
run_split : (first m n : ℕ) → run_text first (m + n) ≡ run_text first m ++ run_text (first + m) n
unfolding run_text
run_split first m n =
    ap (flat_map (spaced_number decimal)) (range_split first m n)
    ∙ flat_map-append (spaced_number decimal) (range_with_len first m) (range_with_len (first + m) n)

-- one number more
run_one : (n : ℕ) → run_text n 1 ≡ (32 ∷ decimal n) ++ []
unfolding run_text
run_one n = refl

-- no number is no run
pub run_none : {N : Type 0} (written : N → List ℕ) (numbers : List N) (first : ℕ) → flat_map (spaced_number written) (take 0 numbers) ≡ run_text first 0
unfolding run_text
run_none written numbers first = refl

-- the first numbers are a run, and so are they with the next one
pub run_more : {N : Type 0} (written : N → List ℕ) (numbers : List N) (first count : ℕ) (number : N)
    → count < length numbers → number ≡ get_or numbers count number → written number ≡ decimal (first + count)
    → flat_map (spaced_number written) (take count numbers) ≡ run_text first count
    → flat_map (spaced_number written) (take (count + 1) numbers) ≡ run_text first (count + 1)
run_more written numbers first count number below is text so_far =
    ap (flat_map (spaced_number written)) (take_more numbers count number below ∙ ap (λ n. take count numbers ++ n ∷ []) (sym is))
    ∙ flat_map-append (spaced_number written) (take count numbers) (number ∷ [])
    ∙ ap₂ (λ (a b : List ℕ). a ++ ((32 ∷ b) ++ [])) so_far text
    ∙ ap (λ (l : List ℕ). run_text first count ++ l) (sym (run_one (first + count)))
    ∙ sym (run_split first count 1)

-- a run behind a run
pub run_further : {N : Type 0} (written : N → List ℕ) (numbers : List N) (first count more : ℕ) → count + more ≤ length numbers
    → flat_map (spaced_number written) (take count numbers) ≡ run_text first count
    → (let next = take (count + more - count) (drop count numbers) in flat_map (spaced_number written) next ≡ run_text (first + count) (length next))
    → flat_map (spaced_number written) (take (count + more) numbers) ≡ run_text first (count + more)
run_further written numbers first count more within so_far next =
    let here : count + more - count ≡ more = omega arith in
    let left : count + more - count ≤ length (drop count numbers) = omega (arith, length-drop count numbers) in
    let long : length (take (count + more - count) (drop count numbers)) ≡ more = length-take-le (count + more - count) (drop count numbers) left ∙ here in
    numbers_split written numbers count (count + more) (omega arith)
    ∙ ap₂ (λ (a b : List ℕ). a ++ b) so_far (next ∙ ap (run_text (first + count)) long)
    ∙ sym (run_split first count more)

-- how long the run from 0 on is
length_more : (n : ℕ) → length (run_text 0 (n + 1)) ≡ length (run_text 0 n) + 1 + length (decimal n)
length_more n =
    let parts = ap length (run_split 0 n 1) ∙ length-append (run_text 0 n) (run_text (0 + n) 1) in
    let there : 0 + n ≡ n = omega arith in
    let one = ap length (ap (λ m. run_text m 1) there ∙ run_one n) ∙ length-append (32 ∷ decimal n) [] in
    omega (arith, parts, one)

length_none : length (run_text 0 0) ≡ 2 * 0
unfolding run_text
length_none = refl

length_first : (n : ℕ) → n ≤ 10 → length (run_text 0 n) ≡ 2 * n
length_first zero h = length_none
length_first (suc n) h =
    let next : suc n ≡ n + 1 = omega arith in
    rw next (omega (arith, length_more n, length_one n (omega arith), length_first n (omega arith)))

length_then : (n : ℕ) → n ≤ 90 → length (run_text 0 (10 + n)) ≡ 20 + 3 * n
length_then zero h = length_first 10 (omega arith)
length_then (suc n) h =
    let next : 10 + suc n ≡ (10 + n) + 1 = omega arith in
    rw next (omega (arith, length_more (10 + n), length_two (10 + n) (omega arith) (omega arith), length_then n (omega arith)))

pub low_place : (n : ℕ) → n < 10 → 2 * n ≡ length (run_text 0 n)
low_place n h = sym (length_first n (omega arith))

pub high_place : (n : ℕ) → 10 ≤ n → n ≤ 100 → 3 * n - 10 ≡ length (run_text 0 n)
high_place n low high =
    let behind : 10 + (n - 10) ≡ n = omega arith in
    let long = length_then (n - 10) (omega arith) in
    let there = ap (λ m. length (run_text 0 m)) behind in
    omega (arith, long, there)

-- a run lies behind what is before it
run_behind : (first count : ℕ) → length (run_text 0 (first + count)) ≡ length (run_text 0 first) + length (run_text first count)
run_behind first count =
    let here : 0 + first ≡ first = omega arith in
    ap length (run_split 0 first count ∙ ap (λ m. run_text 0 first ++ run_text m count) here) ∙ length-append (run_text 0 first) (run_text first count)

pub place_rises : (first count : ℕ) → length (run_text 0 first) ≤ length (run_text 0 (first + count))
place_rises first count = omega (arith, run_behind first count)

-- a run is the part of the text between its places
pub run_within : (first count : ℕ) → first + count ≤ 100
    → take (length (run_text 0 (first + count)) - length (run_text 0 first)) (drop (length (run_text 0 first)) SMALL) ≡ run_text first count
run_within first count high =
    let before = run_text 0 first in
    let run = run_text first count in
    let behind = run_text (first + count) (100 - (first + count)) in
    let all : first + (count + (100 - (first + count))) ≡ 100 = omega arith in
    let here : 0 + first ≡ first = omega arith in
    let parts : run_text 0 100 ≡ before ++ (run ++ behind) =
    ap (run_text 0) (sym all) ∙ run_split 0 first (count + (100 - (first + count)))
    ∙ ap (λ m. before ++ run_text m (count + (100 - (first + count)))) here
    ∙ ap (λ l. before ++ l) (run_split first count (100 - (first + count))) in
    let long : length (run_text 0 (first + count)) - length before ≡ length run = omega (arith, run_behind first count) in
    ap₂ (λ n l. take n (drop (length before) l)) long (small_is ∙ parts)
    ∙ ap (take (length run)) (drop-append_seam before (run ++ behind))
    ∙ take-append_seam run behind

-- it lies within the text
pub place_within : (n : ℕ) → n ≤ 100 → length (run_text 0 n) ≤ length SMALL
place_within n high =
    let all : 100 ≡ n + (100 - n) = omega arith in
    let parts = ap length small_is ∙ ap (λ m. length (run_text 0 m)) all in
    omega (arith, parts, place_rises n (100 - n))
