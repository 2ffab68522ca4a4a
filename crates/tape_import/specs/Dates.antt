-- The date that a header tells, of a second counted from the beginning of 1970, in UTC.
use Rattle.std.specs.Prelude.{◌≡◌, ℕ, ◌+◌, ◌/◌, ◌%◌, ◌&&◌, List, [], ◌∷◌, ◌++◌, codes, nat_le, pos, Option, Some, None, if◌then◌else◌}
use Rattle.jiff.specs.Words.{date_text, epoch_day}
use Rattle.jiff.specs.Types.{Date}

-- Seconds that are told: those from the second day of 1970 on, up to the end of the year 9999 (ours).
abbrev pub first_second : ℕ
first_second = 86400

abbrev pub last_second : ℕ
last_second = 253402300799

abbrev pub dated : ℕ → Option ℕ
dated second = if nat_le first_second second && nat_le second last_second then Some second else None

-- A number below 100 in two digits.
abbrev pub two_digits : ℕ → List ℕ
two_digits n = (48 + n / 10) ∷ (48 + n % 10) ∷ []

-- A time of day: `17:40:54`.
abbrev pub clock_text : ℕ → List ℕ
clock_text second = two_digits (second / 3600) ++ 58 ∷ two_digits (second / 60 % 60) ++ 58 ∷ two_digits (second % 60)

-- `2026-11-27 17:40:54+00:00`: the day of the Gregorian calendar that is so many days behind 1970-01-01, and the time
-- of day. script(1), by ISO 8601.
pub record IsDateText (second : ℕ) (text : List ℕ) : Type 0 where
  pub date : Date
  pub day : epoch_day date ≡ pos (second / 86400)
  pub spelled : text ≡ date_text date ++ 32 ∷ clock_text (second % 86400) ++ codes "+00:00"

-- A date that isn't told is `unknown` (ours).
abbrev pub TellsDate : Option ℕ → List ℕ → Type 0
TellsDate None text = text ≡ codes "unknown"
TellsDate (Some second) text = IsDateText second text
