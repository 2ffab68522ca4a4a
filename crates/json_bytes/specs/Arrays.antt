-- Arrays of bytes: numbers of digits alone from 0 to 255 (ours).
use Rattle.std.specs.Prelude.{ℕ, List, [], ◌∷◌, nat_le, Option, Some, None, if◌then◌else◌}
use Rattle.std.specs.Option.{option_and_then, option_map}
use Rattle.std.specs.Str.Parse.{digits_value}
use Rattle.json_bytes.specs.Numbers.{Decimal, number_at, plain_digits}
use Rattle.json_bytes.specs.Values.{Items, Json, Read, array, boolean, item, no_items, null, number, number_of, object, string}

-- A byte by its digits.
abbrev pub byte_by : List ℕ → Option ℕ
byte_by digits = if nat_le (digits_value 10 digits) 255 then Some (digits_value 10 digits) else None

abbrev pub byte_of : Option Decimal → Option ℕ
byte_of found = option_and_then byte_by (option_and_then plain_digits found)

-- The one at the front of a text.
abbrev pub byte_at : List ℕ → Read ℕ
byte_at text = option_and_then (λ r. option_map (λ b. (b, r.1)) (byte_of (Some r.0))) (number_at text)

-- Those of an array, where each of its values is one.
abbrev pub bytes_within : Items → Option (List ℕ)
bytes_within no_items = Some []
bytes_within (item v more) =
    option_and_then (λ b. option_map (λ bs. b ∷ bs) (bytes_within more)) (byte_of (number_of (Some v)))

abbrev pub bytes_of : Option Json → Option (List ℕ)
bytes_of None = None
bytes_of (Some null) = None
bytes_of (Some (boolean b)) = None
bytes_of (Some (number n)) = None
bytes_of (Some (string s)) = None
bytes_of (Some (array values)) = bytes_within values
bytes_of (Some (object all)) = None
