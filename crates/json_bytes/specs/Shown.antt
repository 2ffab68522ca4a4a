-- Private: what the parts of a number show, and how it is scaled.
use Rattle.std.specs.Prelude.{ℕ, ◌≡◌, ◌≤◌, ◌+◌, ◌-◌, false, List, [], ◌++◌, drop, length, min, take, Some}
use Rattle.std.specs.Char.{is_ascii_digit}
use Rattle.std.specs.List.{AllPass}
use Rattle.json_bytes.specs.Marks.{begins}
use Rattle.json_bytes.specs.Numbers.{Decimal, IsCounted, lowers, number_at, raises}
use Rattle.json_bytes.specs.declared.numbers.Parts.{Parts}
use Rattle.json_bytes.specs.declared.pieces.Pieces.{Pieces}

-- The number that they are.
abbrev pub shown : Parts → Decimal
shown parts = record {
  negative = parts.negative;
  whole = parts.whole.now;
  fraction = parts.fraction.now;
  falls = parts.falls;
  exponent = parts.exponent.now;
}

-- The number that digits alone write, which this stands behind.
abbrev pub alone : List ℕ → List ℕ → Decimal
alone digits rest =
    record { negative = false; whole = digits; fraction = []; falls = begins 45 (drop 1 rest); exponent = [] }

-- The number at the front is so many digits alone, which write this.
pub record IsPlain (text : List ℕ) (count len : ℕ) : Type 0 where
  pub number : number_at text ≡ Some (alone (take len text) (drop len text), drop len text)
  pub counted : IsCounted (take len text) count len
  pub within : len ≤ length text

-- The bytes that were added one after another.
abbrev pub added : Pieces → List ℕ
added pieces = pieces.bytes.items ++ take pieces.count pieces.held

-- They are digits.
pub record IsOfDigits (parts : Parts) : Type 0 where
  pub whole : AllPass is_ascii_digit parts.whole.now
  pub fraction : AllPass is_ascii_digit parts.fraction.now
  pub exponent : AllPass is_ascii_digit parts.exponent.now

-- How many of its digits count where it is scaled by a power of ten and cut, and how many zeros stand behind them.
abbrev pub kept_digits : ℕ → Decimal → ℕ
kept_digits decimals number =
    min (length number.whole + length number.fraction)
    (length number.whole + length number.fraction + (decimals + raises number)
    - (length number.fraction + lowers number))

abbrev pub kept_zeros : ℕ → Decimal → ℕ
kept_zeros decimals number = decimals + raises number - (length number.fraction + lowers number)
