-- Characters as they stand in a string of JSON (RFC 8259, section 7).
use Rattle.std.specs.Prelude.{ℕ, ◌+◌, ◌/◌, ◌%◌, ◌==◌, ◌||◌, nat_lt, List, [], ◌∷◌, ◌++◌, codes, encode_utf8, if◌then◌else◌}
use Rattle.std.specs.List.{flat_map}

-- a digit of a number in hexadecimal, in lower case
abbrev pub hex_digit : ℕ → ℕ
hex_digit n = if nat_lt n 10 then 48 + n else 87 + n

-- a control character is told by its number
abbrev pub control_text : ℕ → List ℕ
control_text c = codes "\\u00" ++ hex_digit (c / 16) ∷ hex_digit (c % 16) ∷ []

-- `"` and `\` are escaped, characters below 32 and 127 are told by their numbers
unfoldable pub json_character : ℕ → List ℕ
json_character c =
    if c == 34 then codes "\\\""
    else (if c == 92 then codes "\\\\"
    else (if nat_lt c 32 || (c == 127) then control_text c
    else encode_utf8 c))

unfoldable pub json_text : List ℕ → List ℕ
json_text text = flat_map json_character text
