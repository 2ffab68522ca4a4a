-- Numbers that digits write.
use Rattle.std.proofs.Common.{◌≡◌, ℕ, ◌+◌, ◌-◌, ◌*◌, ◌<◌, ◌≤◌, ◌^◌, ◌++◌, min, true, length, get_or, take, replicate, List, arith, refl, ap, sym, ◌∙◌, length-append, add-one, inl, inr}
use Rattle.std.specs.Char.{is_ascii_digit, digit_value}
use Rattle.std.specs.List.{AllPass}
use Rattle.std.specs.Str.Parse.{digits_value}
use Rattle.std.proofs.lemmas.Bool.{cases_lt}
use Rattle.std.proofs.lemmas.List.{get_or_default, get_or_past, get_or-append-add, get_or-replicate}
use Rattle.std.proofs.Math.ListN.{get_or-append}
use Rattle.std.proofs.lemmas.Bool.Decides.{nat_tests}
use Rattle.std.proofs.Math.Nat.{pow-suc}
use Rattle.std.proofs.lemmas.Int.Digits.{digits_value_more}
use Rattle.std.proofs.lemmas.Str.{digit_value_digit}

-- a digit's value
pub digit_range : (c : ℕ) → is_ascii_digit c ≡ true → (48 ≤ c) × (c ≤ 57)
digit_range c h = grind (arith, nat_tests)

pub digit_of : (c : ℕ) → is_ascii_digit c ≡ true → digit_value c ≡ c - 48
digit_of c h = let r = digit_range c h in omega (arith, digit_value_digit c r)

-- one more digit of a number that is capped on the way
pub capped_more : (ds : List ℕ) (i most n d : ℕ) → AllPass is_ascii_digit ds → i < length ds → n ≡ min (digits_value 10 (take i ds)) most
    → d ≡ get_or ds i 0 - 48 → min (n * 10 + d) most ≡ min (digits_value 10 (take (i + 1) ds)) most
capped_more ds i most n d all lt here is =
    let value : digit_value (get_or ds i 0) ≡ get_or ds i 0 - 48 = digit_of _ (all i 0 lt) in
    let more = digits_value_more 10 ds i lt in
    omega (arith, more, value)

-- decimals filled with zeros, at one of the first six
pub filled_at : (ds : List ℕ) (i : ℕ) → i < 6 → get_or (ds ++ replicate 6 48) i 0 ≡ get_or ds i 48
filled_at ds i h =
    elim (cases_lt i (length ds)) [
      | inl lt ↦ get_or-append ds (replicate 6 48) 0 i lt ∙ get_or_default ds i 0 48 lt
      | inr ge ↦ let at : length ds + (i - length ds) ≡ i = omega arith in
          ap (λ k. get_or (ds ++ replicate 6 48) k 0) (sym at) ∙ get_or-append-add ds (replicate 6 48) (i - length ds) 0 ∙ get_or-replicate 6 (i - length ds) 48 0 (omega arith)
          ∙ sym (get_or_past ds i 48 ge)
    ]

pub digit_filled : (ds : List ℕ) (i : ℕ) → AllPass is_ascii_digit ds → is_ascii_digit (get_or ds i 48) ≡ true
digit_filled ds i all =
    elim (cases_lt i (length ds)) [
      | inl lt ↦ all i 48 lt
      | inr ge ↦ rw (get_or_past ds i 48 ge) refl
    ]

-- one more of the first six decimals
pub decimals_more : (ds : List ℕ) (i n d : ℕ) → AllPass is_ascii_digit ds → i < 6 → n ≡ digits_value 10 (take i (ds ++ replicate 6 48))
    → d ≡ get_or ds i 48 - 48 → n * 10 + d ≡ digits_value 10 (take (i + 1) (ds ++ replicate 6 48))
decimals_more ds i n d all lt here is =
    let at = filled_at ds i lt in
    let value : digit_value (get_or (ds ++ replicate 6 48) i 0) ≡ get_or ds i 48 - 48 = rw at (digit_of _ (digit_filled ds i all)) in
    let within : i < length (ds ++ replicate 6 48) = omega (arith, length-append ds (replicate 6 48)) in
    let more = digits_value_more 10 (ds ++ replicate 6 48) i within in
    omega (arith, more, value)

pub decimals_small : (ds : List ℕ) (i n d : ℕ) → AllPass is_ascii_digit ds → n < 10 ^ i → d ≡ get_or ds i 48 - 48 → n * 10 + d < 10 ^ (i + 1)
decimals_small ds i n d all small is =
    let r = digit_range (get_or ds i 48) (digit_filled ds i all) in
    rw add-one (omega (arith, pow-suc 10 i))
