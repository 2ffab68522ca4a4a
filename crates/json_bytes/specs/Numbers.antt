-- The numbers of JSON, and what they are worth. RFC 8259, section 6.
use Rattle.std.specs.Prelude.{ℕ, ◌+◌, ◌*◌, ◌/◌, ◌^◌, ◌≡◌, ◌<◌, Bool, ◌&&◌, ◌||◌, not, List, [], ◌++◌, length, take, drop, min, ◌==◌, Option, Some, None, if◌then◌else◌}
use Rattle.std.specs.Char.{is_ascii_digit}
use Rattle.std.specs.List.{AllPass, prefix_len}
use Rattle.std.specs.Str.Parse.{digits_value}
use Rattle.json_bytes.specs.Marks.{begins}

-- A number by its text: the sign, the digits before and behind the point, the sign of the exponent and its digits.
pub record Decimal : Type 0 where
  pub negative : Bool
  pub whole : List ℕ
  pub fraction : List ℕ
  pub falls : Bool
  pub exponent : List ℕ

-- The digits at the front, and what stands behind them.
abbrev pub digits_len : List ℕ → ℕ
digits_len text = prefix_len is_ascii_digit text

abbrev pub digits_of : List ℕ → List ℕ
digits_of text = take (digits_len text) text

abbrev pub past_digits : List ℕ → List ℕ
past_digits text = drop (digits_len text) text

-- [ minus ]
abbrev pub past_minus : List ℕ → List ℕ
past_minus text = if begins 45 text then drop 1 text else text

-- int: a 0 alone, or digits that don't begin with one.
abbrev pub whole_len : List ℕ → ℕ
whole_len text = if begins 48 text then 1 else digits_len text

-- [ frac ]: a point and digits.
abbrev pub fraction_of : List ℕ → List ℕ
fraction_of text = if begins 46 text then digits_of (drop 1 text) else []

abbrev pub past_fraction : List ℕ → List ℕ
past_fraction text = if length (fraction_of text) == 0 then text else past_digits (drop 1 text)

-- [ exp ]: e or E, a sign or none, and digits.
abbrev pub past_sign : List ℕ → List ℕ
past_sign text = if begins 45 text || begins 43 text then drop 1 text else text

abbrev pub exponent_of : List ℕ → List ℕ
exponent_of text = if begins 101 text || begins 69 text then digits_of (past_sign (drop 1 text)) else []

abbrev pub past_exponent : List ℕ → List ℕ
past_exponent text = if length (exponent_of text) == 0 then text else past_digits (past_sign (drop 1 text))

-- The number at the front, whose whole digits begin this text, and what stands behind it.
abbrev pub decimal_at : Bool → List ℕ → Option (Decimal × List ℕ)
decimal_at negative text =
    let behind = drop (whole_len text) text in
    let exponent = past_fraction behind in
    if whole_len text == 0 then None
    else Some (
      record {
        negative = negative;
        whole = take (whole_len text) text;
        fraction = fraction_of behind;
        falls = begins 45 (drop 1 exponent);
        exponent = exponent_of exponent;
      },
      past_exponent exponent,
    )

abbrev pub number_at : List ℕ → Option (Decimal × List ℕ)
number_at text = decimal_at (begins 45 text) (past_minus text)

-- Its text is digits alone: these.
abbrev pub plain_digits : Decimal → Option (List ℕ)
plain_digits number =
    if not number.negative && length number.fraction == 0 && length number.exponent == 0 then Some number.whole
    else None

-- The greatest value that is told; one above it counts as it (ours).
abbrev pub greatest : ℕ
greatest = 1000000000000000000

-- What digits write, of which there are so many.
pub record IsCounted (digits : List ℕ) (count len : ℕ) : Type 0 where
  pub all : AllPass is_ascii_digit digits
  pub some : 0 < length digits
  pub number : count ≡ min greatest (digits_value 10 digits)
  pub whole : len ≡ length digits

-- The exponent where it raises, and where it lowers.
abbrev pub raises : Decimal → ℕ
raises number = if number.falls then 0 else digits_value 10 number.exponent

abbrev pub lowers : Decimal → ℕ
lowers number = if number.falls then digits_value 10 number.exponent else 0

-- Its exact value times a power of ten, cut to a whole number; one below 0 counts as 0 (ours).
abbrev pub scaled : ℕ → Decimal → ℕ
scaled decimals number =
    if number.negative then 0
    else min greatest
    (digits_value 10 (number.whole ++ number.fraction) * 10 ^ (decimals + raises number)
    / 10 ^ (length number.fraction + lowers number))
