-- Numbers that digits write, cut and filled with zeros.
use Rattle.std.proofs.Common.{◌≡◌, ℕ, zero, suc, ◌+◌, ◌-◌, ◌*◌, ◌/◌, ◌<◌, ◌≤◌, ◌^◌, List, [], ◌∷◌, ◌++◌, length, take, drop, get_or, min, nat_eq, Bool, true, false, Some, refl, subst, ap, sym, ◌∙◌, arith, inl, inr, length-append, add-one, append-nil}
use Rattle.std.specs.Char.{is_ascii_digit, digit_value}
use Rattle.std.specs.List.{AllPass, prefix_len}
use Rattle.std.specs.Str.Parse.{digits_value, digits_value_after}
use Rattle.std.proofs.lemmas.Bool.{cases_lt}
use Rattle.std.proofs.lemmas.Bool.Decides.{nat_tests}
use Rattle.std.proofs.lemmas.List.{get_or-take, length-drop, take-append-drop, take-append-le, take_all}
use Rattle.std.proofs.lemmas.List.Folds.{length-prefix_len}
use Rattle.std.proofs.lemmas.List.Sums.{prefix_len_passes}
use Rattle.std.proofs.lemmas.Nat.{div-mul-add, pow-add}
use Rattle.std.proofs.lemmas.Str.{digit_value_digit}
use Rattle.std.proofs.Math.Nat.{div-div-eq-div-mul, mul-le-mul_left, mul-le-mul_right, pow-suc}
use Rattle.std.proofs.Math.Seq.{take-append-add}
use Rattle.json_bytes.specs.Marks.{begins}
use Rattle.json_bytes.specs.Numbers.{greatest, number_at, whole_len}
use Rattle.json_bytes.specs.Shown.{alone}
use Rattle.json_bytes.proofs.MemberLemmas.{first_byte}

-- a digit's value
pub digit_range : (c : ℕ) → is_ascii_digit c ≡ true → (48 ≤ c) × (c ≤ 57)
digit_range c h = grind (arith, nat_tests)

pub digit_of : (c : ℕ) → is_ascii_digit c ≡ true → digit_value c ≡ c - 48
digit_of c h = let r = digit_range c h in omega (arith, digit_value_digit c r)

pub digit_small : (c : ℕ) → is_ascii_digit c ≡ true → digit_value c ≤ 9
digit_small c h = let r = digit_range c h in omega (arith, digit_of c h)

-- those behind the first are digits too
pub rest_digits : (d : ℕ) (ds : List ℕ) → AllPass is_ascii_digit (d ∷ ds) → AllPass is_ascii_digit ds
rest_digits d ds all = λ i e lt. all (suc i) e (omega arith)

-- one more digit behind a number
after_more : (n : ℕ) (ds : List ℕ) (i : ℕ) → i < length ds
    → digits_value_after 10 n (take (i + 1) ds) ≡ digits_value_after 10 n (take i ds) * 10 + digit_value (get_or ds i 0)
after_more n [] i lt = absurd (omega arith)
after_more n (d ∷ ds) zero lt = refl
after_more n (d ∷ ds) (suc i) lt =
    let next : suc i + 1 ≡ suc (i + 1) = omega arith in
    rw next (after_more (n * 10 + digit_value d) ds i (omega arith))

pub capped_next : (before : ℕ) (ds : List ℕ) (i most n d : ℕ) → is_ascii_digit (get_or ds i 0) ≡ true → i < length ds
    → n ≡ min most (digits_value_after 10 before (take i ds)) → d ≡ get_or ds i 0 - 48
    → min (n * 10 + d) most ≡ min most (digits_value_after 10 before (take (i + 1) ds))
capped_next before ds i most n d next lt here is =
    let value : digit_value (get_or ds i 0) ≡ get_or ds i 0 - 48 = digit_of _ next in
    let more = after_more before ds i lt in
    omega (arith, more, value)

pub capped_more : (before : ℕ) (ds : List ℕ) (i most n d : ℕ) → AllPass is_ascii_digit ds → i < length ds
    → n ≡ min most (digits_value_after 10 before (take i ds)) → d ≡ get_or ds i 0 - 48
    → min (n * 10 + d) most ≡ min most (digits_value_after 10 before (take (i + 1) ds))
capped_more before ds i most n d all lt here is = capped_next before ds i most n d (all i 0 lt) lt here is

first_or_rest : (x : ℕ) (xs : List ℕ) → is_ascii_digit x ≡ true → AllPass is_ascii_digit xs → AllPass is_ascii_digit (x ∷ xs)
first_or_rest x xs is all zero e lt = is
first_or_rest x xs is all (suc i) e lt = all i e (omega arith)

-- the number that digits write behind another is between it and the next one, times a power of ten
after_from : (n : ℕ) (ds : List ℕ) → n * 10 ^ length ds ≤ digits_value_after 10 n ds
after_from n [] = omega arith
after_from n (d ∷ ds) =
    let more = after_from (n * 10 + digit_value d) ds in
    let power : 10 ^ suc (length ds) ≡ 10 ^ length ds * 10 = pow-suc 10 (length ds) in
    rw power (omega (arith, more))

after_to : (n : ℕ) (ds : List ℕ) → AllPass is_ascii_digit ds → digits_value_after 10 n ds < (n + 1) * 10 ^ length ds
after_to n [] all = omega arith
after_to n (d ∷ ds) all =
    let more = after_to (n * 10 + digit_value d) ds (rest_digits d ds all) in
    let power : 10 ^ suc (length ds) ≡ 10 ^ length ds * 10 = pow-suc 10 (length ds) in
    let small : digit_value d ≤ 9 = digit_small d (all 0 0 (omega arith)) in
    let times : digit_value d * 10 ^ length ds ≤ 9 * 10 ^ length ds = mul-le-mul_right (10 ^ length ds) small in
    rw power (omega (arith, more, times))

after_append : (n : ℕ) (xs ys : List ℕ) → digits_value_after 10 n (xs ++ ys) ≡ digits_value_after 10 (digits_value_after 10 n xs) ys
after_append n [] ys = refl
after_append n (x ∷ xs) ys = after_append (n * 10 + digit_value x) xs ys

grows : (n : ℕ) (ds : List ℕ) → n ≤ digits_value_after 10 n ds
grows n [] = omega arith
grows n (d ∷ ds) = omega (arith, grows (n * 10 + digit_value d) ds)

-- a number that was capped before
pub capped_before : (most n : ℕ) (ds : List ℕ) → min most (digits_value_after 10 (min most n) ds) ≡ min most (digits_value_after 10 n ds)
capped_before most n ds = elim (cases_lt most n) [
  | inr le ↦ let same : min most n ≡ n = omega arith in ap (λ m. min most (digits_value_after 10 m ds)) same
  | inl gt ↦ omega (arith, grows (min most n) ds, grows n ds)
]

-- powers of ten
pub ten_times : (k : ℕ) → 10 ^ (k + 1) ≡ 10 ^ k * 10
ten_times k = rw add-one (pow-suc 10 k)

power_some : (k : ℕ) → 1 ≤ 10 ^ k
power_some zero = omega arith
power_some (suc k) = omega (arith, pow-suc 10 k, power_some k)

power_grows : (j k : ℕ) → j ≤ k → 10 ^ j ≤ 10 ^ k
power_grows j k le =
    let is : k ≡ j + (k - j) = omega arith in
    let parts : 10 ^ (j + (k - j)) ≡ 10 ^ j * 10 ^ (k - j) = pow-add 10 j (k - j) in
    let times : 10 ^ j * 1 ≤ 10 ^ j * 10 ^ (k - j) = mul-le-mul_left (10 ^ j) (power_some (k - j)) in
    let same : 10 ^ k ≡ 10 ^ (j + (k - j)) = ap (λ n. 10 ^ n) is in
    omega (arith, parts, times, same)

-- a number between that times a power and the next one times it
between : (n value power : ℕ) → n * power ≤ value → value < (n + 1) * power → value / power ≡ n
between n value power from to =
    let rest : value - n * power < power = omega (arith, from, to) in
    let whole : n * power + (value - n * power) ≡ value = omega (arith, from) in
    sym (ap (λ v. v / power) whole) ∙ div-mul-add n power (value - n * power) rest

-- digits that are cut off
all_at : (ds : List ℕ) (k : ℕ) → AllPass is_ascii_digit ds → AllPass is_ascii_digit (drop k ds)
all_at ds zero all = all
all_at [] (suc k) all = all
all_at (d ∷ ds) (suc k) all = all_at ds k (rest_digits d ds all)

pub both_digits : (xs ys : List ℕ) → AllPass is_ascii_digit xs → AllPass is_ascii_digit ys → AllPass is_ascii_digit (xs ++ ys)
both_digits [] ys p q = q
both_digits (x ∷ xs) ys p q = λ i. first_or_rest x (xs ++ ys) (p 0 0 (omega arith)) (both_digits xs ys (rest_digits x xs p) q) i

cut_value : (ds : List ℕ) (cut : ℕ) → AllPass is_ascii_digit ds → digits_value 10 (take (length ds - cut) ds) ≡ digits_value 10 ds / 10 ^ cut
cut_value ds cut all = elim (cases_lt (length ds) cut) [
  | inr le ↦
      let front = take (length ds - cut) ds in
      let back = drop (length ds - cut) ds in
      let len : length back ≡ cut = omega (arith, length-drop (length ds - cut) ds) in
      let whole : digits_value_after 10 (digits_value 10 front) back ≡ digits_value 10 ds =
      sym (after_append 0 front back) ∙ ap (digits_value 10) (take-append-drop (length ds - cut) ds) in
      let power : 10 ^ length back ≡ 10 ^ cut = ap (λ n. 10 ^ n) len in
      let from : digits_value 10 front * 10 ^ cut ≤ digits_value 10 ds = rw (← power, ← whole) (after_from (digits_value 10 front) back) in
      let to : digits_value 10 ds < (digits_value 10 front + 1) * 10 ^ cut =
      rw (← power, ← whole) (after_to (digits_value 10 front) back (all_at ds (length ds - cut) all)) in
      sym (between (digits_value 10 front) (digits_value 10 ds) (10 ^ cut) from to)
  | inl gt ↦
      let none : length ds - cut ≡ 0 = omega arith in
      let to : digits_value 10 ds < (0 + 1) * 10 ^ cut = omega (arith, after_to 0 ds all, power_grows (length ds) cut (omega arith)) in
      rw none (sym (between 0 (digits_value 10 ds) (10 ^ cut) (omega arith) to))
]

-- a quotient of powers
raised : (n up down : ℕ) → down ≤ up → n * 10 ^ up / 10 ^ down ≡ n * 10 ^ (up - down)
raised n up down le =
    let is : up ≡ up - down + down = omega arith in
    let power : 10 ^ up ≡ 10 ^ (up - down) * 10 ^ down = ap (λ k. 10 ^ k) is ∙ pow-add 10 (up - down) down in
    let whole : n * 10 ^ up ≡ n * 10 ^ (up - down) * 10 ^ down = omega (arith, ap (λ p. n * p) power) in
    between (n * 10 ^ (up - down)) (n * 10 ^ up) (10 ^ down) (omega (arith, whole)) (omega (arith, whole, power_some down))

lowered : (n up cut : ℕ) → n * 10 ^ up / 10 ^ (up + cut) ≡ n / 10 ^ cut
lowered n up cut =
    let once : n * 10 ^ up / 10 ^ up ≡ n = between n (n * 10 ^ up) (10 ^ up) (omega arith) (omega (arith, power_some up)) in
    ap (λ p. n * 10 ^ up / p) (pow-add 10 up cut) ∙ sym (div-div-eq-div-mul (n * 10 ^ up) (10 ^ up) (10 ^ cut)) ∙ ap (λ m. m / 10 ^ cut) once

-- zeros behind a number that is capped
capped_zeros : (n zeros : ℕ) → min greatest (min greatest n * 10 ^ min 18 zeros) ≡ min greatest (n * 10 ^ zeros)
capped_zeros n zeros = elim (cases_lt 18 zeros) [
  | inr le ↦
      let few : min 18 zeros ≡ zeros = omega arith in
      let some = power_some zeros in
      rw few (elim (cases_lt greatest n) [
        | inr small ↦ let same : min greatest n ≡ n = omega arith in rw same refl
        | inl large ↦
            let same : min greatest n ≡ greatest = omega arith in
            let one : greatest * 1 ≤ greatest * 10 ^ zeros = mul-le-mul_left greatest some in
            let two : n * 1 ≤ n * 10 ^ zeros = mul-le-mul_left n some in
            rw same (omega (arith, one, two))
      ])
  | inl many ↦
      let most : min 18 zeros ≡ 18 = omega arith in
      let grown : 10 ^ 18 ≤ 10 ^ zeros = power_grows 18 zeros (omega arith) in
      rw most (elim (cases_lt 0 n) [
        | inr nothing ↦ let none : n ≡ 0 = omega arith in rw none (omega arith)
        | inl some ↦
            let one : 1 * 10 ^ zeros ≤ n * 10 ^ zeros = mul-le-mul_right (10 ^ zeros) some in
            omega (arith, one, grown)
      ])
]

-- the first digits of two texts, one behind the other
take_both : (xs ys : List ℕ) (k : ℕ) → take k (xs ++ ys) ≡ take (min k (length xs)) xs ++ take (k - min k (length xs)) ys
take_both xs ys k = elim (cases_lt (length xs) k) [
  | inl lt ↦
      let most : min k (length xs) ≡ length xs = omega arith in
      let is : k ≡ length xs + (k - length xs) = omega arith in
      ap (λ n. take n (xs ++ ys)) is ∙ take-append-add xs ys (k - length xs)
      ∙ sym (rw most (ap (λ zs. zs ++ take (k - length xs) ys) (take_all (length xs) xs (omega arith))))
  | inr le ↦
      let most : min k (length xs) ≡ k = omega arith in
      let none : k - k ≡ 0 = omega arith in
      take-append-le k xs ys le ∙ sym (rw (most, none) (append-nil (take k xs)))
]

-- what is computed of the digits that count, and of the zeros behind them
pub scaled_is : (whole fraction : List ℕ) (up down kept : ℕ) → AllPass is_ascii_digit whole → AllPass is_ascii_digit fraction
    → kept ≡ min (length whole + length fraction) (length whole + length fraction + up - down)
    → min greatest (min greatest (digits_value_after 10 (min greatest (digits_value_after 10 0 (take (min kept (length whole)) whole))) (take (kept - min kept (length whole)) fraction)) * 10 ^ min 18 (up - down))
    ≡ min greatest (digits_value 10 (whole ++ fraction) * 10 ^ up / 10 ^ down)
scaled_is whole fraction up down kept p q is =
    let all = whole ++ fraction in
    let digits : AllPass is_ascii_digit all = both_digits whole fraction p q in
    let len : length all ≡ length whole + length fraction = length-append whole fraction in
    let front = take (min kept (length whole)) whole in
    let back = take (kept - min kept (length whole)) fraction in
    let first : min greatest (digits_value_after 10 (min greatest (digits_value_after 10 0 front)) back) ≡ min greatest (digits_value 10 (take kept all)) =
    capped_before greatest (digits_value_after 10 0 front) back ∙ ap (min greatest) (sym (after_append 0 front back) ∙ ap (digits_value 10) (sym (take_both whole fraction kept))) in
    let shifted : min greatest (min greatest (digits_value 10 (take kept all)) * 10 ^ min 18 (up - down)) ≡ min greatest (digits_value 10 (take kept all) * 10 ^ (up - down)) =
    capped_zeros (digits_value 10 (take kept all)) (up - down) in
    let value : digits_value 10 (take kept all) * 10 ^ (up - down) ≡ digits_value 10 all * 10 ^ up / 10 ^ down = elim (cases_lt up down) [
      | inr le ↦
          let most : kept ≡ length all = omega arith in
          rw (most, take_all (length all) all (omega arith)) (sym (raised (digits_value 10 all) up down le))
      | inl lt ↦
          let most : kept ≡ length all - (down - up) = omega arith in
          let none : up - down ≡ 0 = omega arith in
          let parts : down ≡ up + (down - up) = omega arith in
          let cut = cut_value all (down - up) digits in
          let quotient : digits_value 10 all * 10 ^ up / 10 ^ down ≡ digits_value 10 all / 10 ^ (down - up) =
          ap (λ n. digits_value 10 all * 10 ^ up / 10 ^ n) parts ∙ lowered (digits_value 10 all) up (down - up) in
          rw (most, none) (omega (arith, cut, quotient))
    ] in
    ap (λ n. min greatest (n * 10 ^ min 18 (up - down))) first ∙ shifted ∙ ap (min greatest) value

-- the digits at the front are digits
pub prefix_digits : (text : List ℕ) → AllPass is_ascii_digit (take (prefix_len is_ascii_digit text) text)
prefix_digits text = λ i e lt.
    let len : length (take (prefix_len is_ascii_digit text) text) ≡ prefix_len is_ascii_digit text = length-prefix_len is_ascii_digit text in
    let within : i < prefix_len is_ascii_digit text = omega (arith, len) in
    rw (get_or-take (prefix_len is_ascii_digit text) text i e within) (prefix_len_passes is_ascii_digit text i e within)

-- a zero at the front
abbrev pub IsNought : List ℕ → Type 0
IsNought text = (1 ≤ length text) × (min greatest (digits_value 10 (take 1 text)) ≡ 0) × AllPass is_ascii_digit (take 1 text)

nought_alone : AllPass is_ascii_digit (48 ∷ [])
nought_alone zero e lt = refl
nought_alone (suc i) e lt = absurd (omega arith)

pub nought_first : (text : List ℕ) → begins 48 text ≡ true → IsNought text
nought_first [] is = cc
nought_first (b ∷ bs) is = subst (λ n. IsNought (n ∷ bs)) (sym (first_byte 48 b bs is)) (omega arith, refl, nought_alone)

-- a number of digits alone
no_minus_by : (b : ℕ) (bs : List ℕ) (minus : Bool) → begins 45 (b ∷ bs) ≡ minus → 0 < whole_len (b ∷ bs) → begins 45 (b ∷ bs) ≡ false
no_minus_by b bs false is some = is
no_minus_by b bs true is some =
    let none : 0 < whole_len (45 ∷ bs) = subst (λ n. 0 < whole_len (n ∷ bs)) (first_byte 45 b bs is) some in
    absurd (omega (arith, none))

no_minus : (text : List ℕ) → 0 < whole_len text → begins 45 text ≡ false
no_minus [] some = absurd (omega arith)
no_minus (b ∷ bs) some = no_minus_by b bs (begins 45 (b ∷ bs)) refl some

some_whole : (n : ℕ) (text : List ℕ) → nat_eq (length (take n text)) 0 ≡ false → 0 < n
some_whole zero text some = cc
some_whole (suc n) text some = omega arith

pub not_zero : (n : ℕ) → 0 < n → nat_eq n 0 ≡ false
not_zero zero some = absurd (omega arith)
not_zero (suc n) some = grind (arith, nat_tests)

pub digits_alone : (text digits rest : List ℕ) → digits ≡ take (whole_len text) text → rest ≡ drop (whole_len text) text → nat_eq (length digits) 0 ≡ false
    → begins 46 rest ≡ false → begins 101 rest ≡ false → begins 69 rest ≡ false → number_at text ≡ Some (alone digits rest, rest)
digits_alone text digits rest front back some point small great =
    let more : 0 < whole_len text = some_whole (whole_len text) text (ap (λ d. nat_eq (length d) 0) (sym front) ∙ some) in
    let none : nat_eq (whole_len text) 0 ≡ false = not_zero (whole_len text) more in
    let first : begins 45 text ≡ false = no_minus text more in
    let no_point : begins 46 (drop (whole_len text) text) ≡ false = ap (begins 46) (sym back) ∙ point in
    let no_small : begins 101 (drop (whole_len text) text) ≡ false = ap (begins 101) (sym back) ∙ small in
    let no_great : begins 69 (drop (whole_len text) text) ≡ false = ap (begins 69) (sym back) ∙ great in
    rw (front, back, first, none, no_point, no_small, no_great) refl
