-- Moments and delays as decimal seconds, read as whole microseconds.
use Rattle.std.specs.Prelude.{◌≡◌, ℕ, ◌+◌, ◌*◌, ◌<◌, ◌⊎◌, ◌&&◌, List, [], ◌∷◌, ◌++◌, length, take, replicate, Option, Some, None, ◌==◌, nat_lt, if◌then◌else◌, min}
use Rattle.std.specs.Char.{is_ascii_digit}
use Rattle.std.specs.List.{AllPass, before_first, after_first, list_all}
use Rattle.std.specs.Option.{option_map}
use Rattle.std.specs.Str.Parse.{digits_value}

-- A second, in microseconds.
abbrev pub second : ℕ
second = 1000000

-- The microseconds that whole seconds and decimals write: digits past the sixth decimal are dropped, missing ones are
-- zeros. script(1).
abbrev pub micros : List ℕ → List ℕ → ℕ
micros whole decimals = second * digits_value 10 whole + digits_value 10 (take 6 (decimals ++ replicate 6 48))

-- The text is decimal seconds: one or more digits, optionally a point and zero or more digits. script(1).
pub record IsSeconds (text : List ℕ) (us : ℕ) : Type 0 where
  pub whole : List ℕ
  pub decimals : List ℕ
  pub some : 0 < length whole
  pub whole_digits : AllPass is_ascii_digit whole
  pub decimal_digits : AllPass is_ascii_digit decimals
  pub spelled : ((text ≡ whole) × (decimals ≡ [])) ⊎ (text ≡ whole ++ 46 ∷ decimals)
  pub value : us ≡ micros whole decimals

-- The same as a function: what stands before and after the first point.
abbrev pub micros_of : List ℕ → Option ℕ
micros_of text =
    let whole = before_first (λ b. b == 46) text in
    let decimals = after_first (λ b. b == 46) text in
    if nat_lt 0 (length whole) && (list_all is_ascii_digit whole && list_all is_ascii_digit decimals)
    then Some (micros whole decimals)
    else None

-- The greatest moment, in microseconds (ours).
abbrev pub last_moment : ℕ
last_moment = 1000000000000000000

-- A moment or delay in an argument or a request line: a value above the greatest moment counts as it (ours).
unfoldable pub seconds_of : List ℕ → Option ℕ
seconds_of text = option_map (λ us. min us last_moment) (micros_of text)
