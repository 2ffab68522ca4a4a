-- The numbers of a timing, and the sizes that they tell.
use Rattle.std.proofs.Common.{◌≡◌, ℕ, zero, suc, ◌<◌, Bool, true, false, List, length, drop, min, nat_eq, nat_le, nat_lt, Option, Some, None, if◌then◌else◌, refl, ap, sym, ◌∙◌, arith, inl, inr}
use Rattle.std.specs.Char.{is_ascii_digit}
use Rattle.std.specs.List.{list_all}
use Rattle.std.specs.Option.{option_and_then, option_map}
use Rattle.std.specs.Str.Parse.{digits_value}
use Rattle.std.proofs.lemmas.Bool.{cases_lt, le-leb, lt-leb, lt-ltb}
use Rattle.std.proofs.lemmas.List.Folds.{length-prefix_len}
use Rattle.std.proofs.lemmas.List.Sums.{list_all-from_AllPass}
use Rattle.json_bytes.proofs.NumberLemmas.{prefix_digits}
use Rattle.json_bytes.specs.Marks.{begins}
use Rattle.json_bytes.specs.Numbers.{digits_len, digits_of, greatest, past_digits}
use Rattle.json_bytes.specs.Values.{Read, as_part}
use Rattle.tape_core.specs.Seconds.{last_moment}
use Rattle.tape_core.specs.Text as digits
use Rattle.tape_import.specs.Asciicast.{sided}
use Rattle.tape_import.specs.Facts.{side, size_of}
use Rattle.tape_import.specs.declared.facts.Size.{Size}
use Rattle.tape_import.specs.TlogTiming.{both_counted, counted, digits_at, two_at}

-- digits that were counted, and what stands behind them
pub counted_at : (text rest : List ℕ) (count len : ℕ) → count ≡ min greatest (digits_value 10 (digits_of text)) → len ≡ digits_len text
    → nat_eq len 0 ≡ false → rest ≡ drop len text → Some (count, rest) ≡ as_part counted (digits_at text)
counted_at text rest count len number many some behind =
    let value : count ≡ counted (digits_of text) = omega (arith, number) in
    let more : nat_eq (digits_len text) 0 ≡ false = ap (λ n. nat_eq n 0) (sym many) ∙ some in
    let past : rest ≡ past_digits text = behind ∙ ap (λ n. drop n text) many in
    rw (more, value, past) refl

-- two numbers, one after the other
second_counted : (first : List ℕ) (parted : Bool) (second : Read (List ℕ))
    → as_part both_counted (if parted then as_part (λ ds. (first, ds)) second else None)
    ≡ (if parted then as_part (λ n. (counted first, n)) (as_part counted second) else None)
second_counted first false second = refl
second_counted first true None = refl
second_counted first true (Some r) = refl

first_counted : (byte : ℕ) (first : Read (List ℕ))
    → as_part both_counted (option_and_then (λ r. if begins byte r.1 then as_part (λ ds. (r.0, ds)) (digits_at (drop 1 r.1)) else None) first)
    ≡ option_and_then (λ r. if begins byte r.1 then as_part (λ n. (r.0, n)) (as_part counted (digits_at (drop 1 r.1))) else None) (as_part counted first)
first_counted byte None = refl
first_counted byte (Some r) = second_counted r.0 (begins byte r.1) (digits_at (drop 1 r.1))

pub two_counted : (byte : ℕ) (text : List ℕ) → as_part both_counted (two_at byte text)
    ≡ option_and_then (λ r. if begins byte r.1 then as_part (λ n. (r.0, n)) (as_part counted (digits_at (drop 1 r.1))) else None) (as_part counted (digits_at text))
two_counted byte text = first_counted byte (digits_at text)

-- a number that is capped is a side where it was one
side_over : (n : ℕ) → 9999 < n → side (Some n) ≡ None
side_over n over =
    let some : nat_le 1 n ≡ true = le-leb 1 n (omega arith) in
    let most : nat_le n 9999 ≡ false = lt-leb n 9999 over in
    rw (some, most) refl

side_capped : (n : ℕ) → side (Some n) ≡ side (Some (min n last_moment))
side_capped n = elim (cases_lt 9999 n) [
  | inr small ↦ let same : n ≡ min n last_moment = omega arith in ap (λ k. side (Some k)) same
  | inl over ↦ side_over n over ∙ sym (side_over (min n last_moment) (omega arith))
]

pub side_told : (n : Option ℕ) → side n ≡ side (option_map (λ n. min n last_moment) n)
side_told None = refl
side_told (Some n) = side_capped n

some_there : (n : ℕ) → nat_eq n 0 ≡ false → nat_lt 0 n ≡ true
some_there zero none = cc
some_there (suc n) none = lt-ltb 0 (suc n) (omega arith)

side_read : (text : List ℕ) → nat_eq (digits_len text) 0 ≡ false → side (digits.number_of (digits_of text)) ≡ side (Some (counted (digits_of text)))
side_read text more =
    let ds = digits_of text in
    let len : length ds ≡ digits_len text = length-prefix_len is_ascii_digit text in
    let some : nat_lt 0 (length ds) ≡ true = some_there (length ds) (ap (λ n. nat_eq n 0) len ∙ more) in
    let all : list_all is_ascii_digit ds ≡ true = list_all-from_AllPass is_ascii_digit ds (prefix_digits text) in
    let number : digits.number_of ds ≡ Some (digits_value 10 ds) = rw (some, all) refl in
    ap side number ∙ side_capped (digits_value 10 ds)

-- so a size is what both numbers tell
abbrev pub sides_of : ℕ × ℕ → Option Size
sides_of n = size_of (side (Some n.0)) (side (Some n.1))

sided_by : (byte : ℕ) (text back : List ℕ) (none parted last : Bool) → back ≡ drop 1 (past_digits text) → nat_eq (digits_len text) 0 ≡ none
    → begins byte (past_digits text) ≡ parted → nat_eq (digits_len back) 0 ≡ last
    → as_part (λ n. sided (Some n)) (two_at byte text) ≡ as_part sides_of (as_part both_counted (two_at byte text))
sided_by byte text back true parted last at p q r = rw p refl
sided_by byte text back false false last at p q r = rw (p, q) refl
sided_by byte text back false true true at p q r = rw (p, q, ← at, r) refl
sided_by byte text back false true false at p q r =
    rw (p, q, ← at, r)
    (ap (λ s. Some (size_of s (side (digits.number_of (digits_of back))), past_digits back)) (side_read text p)
    ∙ ap (λ s. Some (size_of (side (Some (counted (digits_of text)))) s, past_digits back)) (side_read back r))

pub two_sided : (byte : ℕ) (text : List ℕ) → as_part (λ n. sided (Some n)) (two_at byte text) ≡ as_part sides_of (as_part both_counted (two_at byte text))
two_sided byte text =
    let back = drop 1 (past_digits text) in
    sided_by byte text back (nat_eq (digits_len text) 0) (begins byte (past_digits text)) (nat_eq (digits_len back) 0) refl refl refl refl
