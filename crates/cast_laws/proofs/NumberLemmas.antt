-- Numbers that digits write, read back by the grammar of JSON.
use Rattle.std.proofs.Common.{◌≡◌, ℕ, zero, suc, ◌+◌, ◌-◌, ◌*◌, ◌/◌, ◌%◌, ◌^◌, ◌<◌, ◌≤◌, ◌==◌, Bool, true, false, cond, List, [], ◌∷◌, ◌++◌, length, take, drop, replicate, get_or, min, nat_eq, Option, Some, None, if◌then◌else◌, refl, ap, sym, subst, ◌∙◌, arith, inl, inr, append_assoc, length-append}
use Rattle.std.specs.Char.{digit_value, is_ascii_digit}
use Rattle.std.specs.Fmt.{decimal}
use Rattle.std.specs.List.{AllPass, prefix_len}
use Rattle.std.specs.Str.Parse.{digits_value, digits_value_after}
use Rattle.std.proofs.lemmas.Bool.{cases_lt}
use Rattle.std.proofs.lemmas.Bool.Decides.{nat_tests}
use Rattle.std.proofs.lemmas.Fmt.{decimal_digit, decimal_is_IsNumeral, decimal_nonempty, first_decimal, length-decimal-le}
use Rattle.std.proofs.lemmas.List.{drop_at, length-replicate, take_at}
use Rattle.std.proofs.lemmas.List.Elements.{All-head, All-tail}
use Rattle.std.proofs.Math.Nat.{pow-suc}
use Rattle.json_bytes.specs.Marks.{begins, is_space, past_space}
use Rattle.json_bytes.specs.Numbers.{Decimal, decimal_at, digits_len, digits_of, exponent_of, fraction_of, greatest, number_at, past_digits, past_exponent, past_fraction, scaled, whole_len}
use Rattle.tape_core.specs.Written.{seconds_form, six_digits}
use Rattle.tape_core.proofs.ReadBackLemmas.{decimal_digits, six_digits_are}

pub not_none : (n : ℕ) → 0 < n → nat_eq n 0 ≡ false
not_none n some = grind (arith, nat_tests)

-- ---- the digits of a whole number, as JSON has them: one or more, and no 0 before others

pub record Whole (text : List ℕ) : Type 0 where
  pub first : ℕ
  pub rest : List ℕ
  pub are : text ≡ first ∷ rest
  pub digits : AllPass is_ascii_digit (first ∷ rest)
  pub lone : nat_eq 48 first ≡ true → rest ≡ []

not_zero : (first : ℕ) → 48 < first → nat_eq 48 first ≡ true → ⊥
not_zero first more is = grind (arith, nat_tests)

positive_by : (text : List ℕ) → AllPass is_ascii_digit text → 0 < length text → 48 < get_or text 0 0 → Whole text
positive_by [] digits some more = absurd (omega arith)
positive_by (d ∷ ds) digits some more = record { first = d; rest = ds; are = refl; digits = digits; lone = λ is. absurd (not_zero d more is) }

whole_by : (n : ℕ) (text : List ℕ) → n < 2 ^ 64 → decimal n ≡ text → AllPass is_ascii_digit text → Whole text
whole_by n text small is digits = elim (cases_lt 0 n) [
  | inl some ↦ positive_by text digits (subst (λ t. 0 < length t) is (decimal_nonempty n small)) (subst (λ t. 48 < get_or t 0 0) is (first_decimal n some small))
  | inr none ↦
      let zero_digit : text ≡ 48 ∷ [] = sym is ∙ decimal_digit n (omega arith) ∙ ap (λ k. (48 + k) ∷ []) (let same : n ≡ 0 = omega arith in same) in
      record { first = 48; rest = []; are = zero_digit; digits = subst (AllPass is_ascii_digit) zero_digit digits; lone = λ is. refl }
]

pub decimal_whole : (n : ℕ) → n < 2 ^ 64 → Whole (decimal n)
decimal_whole n small = whole_by n (decimal n) small refl (decimal_digits n small)

-- what such digits begin with
digit_no_space : (b : ℕ) → is_ascii_digit b ≡ true → is_space b ≡ false
digit_no_space b is = grind (arith, nat_tests)

digit_other : (b byte : ℕ) → is_ascii_digit b ≡ true → (byte < 48) × (0 < byte) → nat_eq byte b ≡ false
digit_other b byte is low = grind (arith, nat_tests)

digit_no_bracket : (b byte : ℕ) → is_ascii_digit b ≡ true → 57 < byte → nat_eq byte b ≡ false
digit_no_bracket b byte is high = grind (arith, nat_tests)

pub begins_other : (byte b : ℕ) (bs : List ℕ) → nat_eq byte b ≡ false → begins byte (b ∷ bs) ≡ false
begins_other byte b bs is = rw is refl

space_by : (b : ℕ) (bs : List ℕ) → is_space b ≡ false → past_space (b ∷ bs) ≡ b ∷ bs
space_by b bs is =
    let none : prefix_len is_space (b ∷ bs) ≡ 0 = rw (is, prefix_len) refl in
    ap (λ n. drop n (b ∷ bs)) none

-- a text that begins with a digit begins with no space, no quote, no minus and no bracket
pub record BeginsWithDigit (text : List ℕ) : Type 0 where
  pub space : past_space text ≡ text
  pub quote : begins 34 text ≡ false
  pub minus : begins 45 text ≡ false
  pub bracket : begins 93 text ≡ false
  pub some : 0 < length text

with_digit : (b : ℕ) (bs : List ℕ) → is_ascii_digit b ≡ true → BeginsWithDigit (b ∷ bs)
with_digit b bs is = record {
  space = space_by b bs (digit_no_space b is);
  quote = begins_other 34 b bs (digit_other b 34 is (omega arith, omega arith));
  minus = begins_other 45 b bs (digit_other b 45 is (omega arith, omega arith));
  bracket = begins_other 93 b bs (digit_no_bracket b 93 is (omega arith));
  some = omega arith;
}

pub whole_begins : (text tail : List ℕ) → Whole text → BeginsWithDigit (text ++ tail)
whole_begins text tail w =
    subst (λ t. BeginsWithDigit (t ++ tail)) (sym w.are) (with_digit w.first (w.rest ++ tail) (All-head (λ b. is_ascii_digit b ≡ true) w.first w.rest w.digits))

-- ---- digits in front of what is none

counted : (digits tail : List ℕ) → AllPass is_ascii_digit digits → digits_len tail ≡ 0 → digits_len (digits ++ tail) ≡ length digits
counted [] tail are none = none
counted (d ∷ ds) tail are none =
    let more = counted ds tail (All-tail (λ b. is_ascii_digit b ≡ true) d ds are) none in
    let one : 1 + length ds ≡ suc (length ds) = omega arith in
    ap (λ b. cond b (1 + digits_len (ds ++ tail)) 0) (All-head (λ b. is_ascii_digit b ≡ true) d ds are) ∙ ap (λ n. 1 + n) more ∙ one

all_of : (digits tail : List ℕ) → AllPass is_ascii_digit digits → digits_len tail ≡ 0 → digits_of (digits ++ tail) ≡ digits
all_of digits tail are none = take_at digits tail (digits_len (digits ++ tail)) (sym (counted digits tail are none))

past_all : (digits tail : List ℕ) → AllPass is_ascii_digit digits → digits_len tail ≡ 0 → past_digits (digits ++ tail) ≡ tail
past_all digits tail are none = drop_at digits tail (digits_len (digits ++ tail)) (sym (counted digits tail are none))

lone_by : (first : ℕ) (rest tail : List ℕ) (zero_first : Bool) → nat_eq 48 first ≡ zero_first → AllPass is_ascii_digit (first ∷ rest) → (nat_eq 48 first ≡ true → rest ≡ [])
    → digits_len tail ≡ 0 → whole_len (first ∷ (rest ++ tail)) ≡ length (first ∷ rest)
lone_by first rest tail true is digits lone none =
    let nothing : length rest ≡ 0 = ap length (lone is) in
    rw is (omega (arith, nothing))
lone_by first rest tail false is digits lone none = rw is (counted (first ∷ rest) tail digits none)

whole_length : (text tail : List ℕ) → Whole text → digits_len tail ≡ 0 → whole_len (text ++ tail) ≡ length text
whole_length text tail w none =
    subst (λ t. whole_len (t ++ tail) ≡ length t) (sym w.are) (lone_by w.first w.rest tail (nat_eq 48 w.first) refl w.digits w.lone none)

-- ---- a number

-- what its parts are read as
abbrev parts_with : List ℕ → List ℕ → List ℕ → Decimal × List ℕ
parts_with whole fraction behind = (
  record { negative = false; whole = whole; fraction = fraction; falls = begins 45 (drop 1 behind); exponent = exponent_of behind },
  past_exponent behind,
)

abbrev parts_of : List ℕ → List ℕ → Decimal × List ℕ
parts_of whole behind = parts_with whole (fraction_of behind) (past_fraction behind)

-- none where there is no whole digit
abbrev parts_if : Bool → List ℕ → List ℕ → Option (Decimal × List ℕ)
parts_if none whole behind = if none then None else Some (parts_of whole behind)

abbrev parts_in : ℕ → List ℕ → Option (Decimal × List ℕ)
parts_in len text = parts_if (len == 0) (take len text) (drop len text)

positive : (text : List ℕ) → BeginsWithDigit text → number_at text ≡ parts_in (whole_len text) text
positive text is = ap (λ b. decimal_at b (if b then drop 1 text else text)) is.minus

in_parts : (text tail : List ℕ) (len : ℕ) → len ≡ length text → 0 < length text → parts_in len (text ++ tail) ≡ Some (parts_of text tail)
in_parts text tail len is some =
    let all = text ++ tail in
    ap (λ none. parts_if none (take len all) (drop len all)) (not_none len (omega arith))
    ∙ ap (λ whole. parts_if false whole (drop len all)) (take_at text tail len (sym is)) ∙ ap (parts_if false text) (drop_at text tail len (sym is))

whole_some : (text : List ℕ) → Whole text → 0 < length text
whole_some text w = subst (λ t. 0 < length t) (sym w.are) (omega arith)

-- its whole digits, and then what stands behind them
pub number_parts : (text tail : List ℕ) → Whole text → digits_len tail ≡ 0 → number_at (text ++ tail) ≡ Some (parts_of text tail)
number_parts text tail w none =
    positive (text ++ tail) (whole_begins text tail w) ∙ in_parts text tail (whole_len (text ++ tail)) (whole_length text tail w none) (whole_some text w)

abbrev pub of_digits : List ℕ → List ℕ → Decimal
of_digits whole fraction = record { negative = false; whole = whole; fraction = fraction; falls = false; exponent = [] }

-- a whole number before a comma and a space, and before a brace at the end
pub before_comma : (text more : List ℕ) → Whole text → number_at (text ++ 44 ∷ 32 ∷ more) ≡ Some (of_digits text [], 44 ∷ 32 ∷ more)
before_comma text more w = number_parts text (44 ∷ 32 ∷ more) w refl

pub before_brace : (text : List ℕ) → Whole text → number_at (text ++ 125 ∷ []) ≡ Some (of_digits text [], 125 ∷ [])
before_brace text w = number_parts text (125 ∷ []) w refl

-- one with a fraction before a comma and a space
fraction_read : (digits more : List ℕ) → AllPass is_ascii_digit digits → fraction_of (46 ∷ (digits ++ 44 ∷ 32 ∷ more)) ≡ digits
fraction_read digits more are = all_of digits (44 ∷ 32 ∷ more) are refl

fraction_passed : (digits more : List ℕ) → AllPass is_ascii_digit digits → 0 < length digits → past_fraction (46 ∷ (digits ++ 44 ∷ 32 ∷ more)) ≡ 44 ∷ 32 ∷ more
fraction_passed digits more are some =
    let behind = digits ++ 44 ∷ 32 ∷ more in
    ap (λ f. if length f == 0 then 46 ∷ behind else past_digits behind) (fraction_read digits more are)
    ∙ ap (λ b. if b then 46 ∷ behind else past_digits behind) (not_none (length digits) some) ∙ past_all digits (44 ∷ 32 ∷ more) are refl

parts_by : (whole fraction behind rest : List ℕ) → fraction_of behind ≡ fraction → past_fraction behind ≡ 44 ∷ 32 ∷ rest
    → parts_of whole behind ≡ (of_digits whole fraction, 44 ∷ 32 ∷ rest)
parts_by whole fraction behind rest is past = ap (λ f. parts_with whole f (past_fraction behind)) is ∙ ap (parts_with whole fraction) past

pub seconds_before_comma : (whole digits more : List ℕ) → Whole whole → AllPass is_ascii_digit digits → 0 < length digits
    → number_at (whole ++ 46 ∷ (digits ++ 44 ∷ 32 ∷ more)) ≡ Some (of_digits whole digits, 44 ∷ 32 ∷ more)
seconds_before_comma whole digits more w are some =
    let behind = 46 ∷ (digits ++ 44 ∷ 32 ∷ more) in
    number_parts whole behind w refl
    ∙ ap (λ p. Some p) (parts_by whole digits behind more (fraction_read digits more are) (fraction_passed digits more are some))

-- ---- what it is worth

after_append : (n : ℕ) (xs ys : List ℕ) → digits_value_after 10 n (xs ++ ys) ≡ digits_value_after 10 (digits_value_after 10 n xs) ys
after_append n [] ys = refl
after_append n (x ∷ xs) ys = after_append (n * 10 + digit_value x) xs ys

-- digits behind a number: the number times a power of ten, and theirs
after_value : (n : ℕ) (ds : List ℕ) → digits_value_after 10 n ds ≡ n * 10 ^ length ds + digits_value 10 ds
after_value n [] = omega arith
after_value n (d ∷ ds) =
    let here = after_value (n * 10 + digit_value d) ds in
    let own = after_value (0 * 10 + digit_value d) ds in
    let power : 10 ^ suc (length ds) ≡ 10 ^ length ds * 10 = pow-suc 10 (length ds) in
    rw power (omega (arith, here, own))

zeros_in_front : (k : ℕ) (digits : List ℕ) → digits_value 10 (replicate k 48 ++ digits) ≡ digits_value 10 digits
zeros_in_front zero digits = refl
zeros_in_front (suc k) digits = zeros_in_front k digits

pub six_long : (us : ℕ) → length (six_digits (us % 1000000)) ≡ 6
six_long us =
    let short : length (decimal (us % 1000000)) ≤ 6 = length-decimal-le 6 (us % 1000000) (omega arith) (omega arith) (omega arith) in
    omega (arith, length-append (replicate (6 - length (decimal (us % 1000000))) 48) (decimal (us % 1000000)), length-replicate {A = ℕ} (6 - length (decimal (us % 1000000))) 48)

six_value : (us : ℕ) → digits_value 10 (six_digits (us % 1000000)) ≡ us % 1000000
six_value us =
    let part = decimal_is_IsNumeral (us % 1000000) (omega arith) in
    zeros_in_front (6 - length (decimal (us % 1000000))) (decimal (us % 1000000)) ∙ part.1

form_value : (us : ℕ) → us < 2 ^ 64 → digits_value 10 (decimal (us / 1000000) ++ six_digits (us % 1000000)) ≡ us
form_value us small =
    let whole = decimal (us / 1000000) in
    let six = six_digits (us % 1000000) in
    let value : digits_value 10 whole ≡ us / 1000000 = (decimal_is_IsNumeral (us / 1000000) (omega arith)).1 in
    let power : 10 ^ length six ≡ 1000000 = ap (λ n. 10 ^ n) (six_long us) in
    let times : digits_value 10 whole * 10 ^ length six ≡ us / 1000000 * 1000000 = ap (λ v. v * 10 ^ length six) value ∙ ap (λ p. us / 1000000 * p) power in
    after_append 0 whole six ∙ after_value (digits_value 10 whole) six ∙ omega (arith, times, six_value us)

by_value : (value len us : ℕ) → value ≡ us → len ≡ 6 → us ≤ greatest → min greatest (value * 10 ^ (6 + 0) / 10 ^ (len + 0)) ≡ us
by_value value len us is six small = rw (is, six) (omega arith)

pub form_scaled : (us : ℕ) → us ≤ greatest → scaled 6 (of_digits (decimal (us / 1000000)) (six_digits (us % 1000000))) ≡ us
form_scaled us small =
    by_value (digits_value 10 (decimal (us / 1000000) ++ six_digits (us % 1000000))) (length (six_digits (us % 1000000))) us
    (form_value us (omega arith)) (six_long us) small

-- ---- the SECONDS form

pub form_whole : (us : ℕ) → us ≤ greatest → Whole (decimal (us / 1000000))
form_whole us small = decimal_whole (us / 1000000) (omega arith)

pub form_begins : (us : ℕ) (tail : List ℕ) → us ≤ greatest → BeginsWithDigit (seconds_form us ++ tail)
unfolding seconds_form
form_begins us tail small =
    subst BeginsWithDigit (sym (append_assoc (decimal (us / 1000000)) (46 ∷ six_digits (us % 1000000)) tail))
    (whole_begins (decimal (us / 1000000)) ((46 ∷ six_digits (us % 1000000)) ++ tail) (form_whole us small))

pub form_read : (us : ℕ) (more : List ℕ) → us ≤ greatest
    → number_at (seconds_form us ++ 44 ∷ 32 ∷ more) ≡ Some (of_digits (decimal (us / 1000000)) (six_digits (us % 1000000)), 44 ∷ 32 ∷ more)
unfolding seconds_form
form_read us more small =
    ap number_at (append_assoc (decimal (us / 1000000)) (46 ∷ six_digits (us % 1000000)) (44 ∷ 32 ∷ more))
    ∙ seconds_before_comma (decimal (us / 1000000)) (six_digits (us % 1000000)) more (form_whole us small) (six_digits_are us) (omega (arith, six_long us))
