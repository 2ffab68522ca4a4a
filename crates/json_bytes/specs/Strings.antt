-- The strings of JSON. RFC 8259, section 7, with bytes from 128 on as they are.
use Rattle.std.specs.Prelude.{ℕ, zero, suc, ◌+◌, ◌-◌, ◌*◌, Bool, ◌&&◌, ◌||◌, List, [], ◌∷◌, ◌++◌, length, drop, encode_utf8, slice_index, nat_le, nat_lt, nat_eq, not, ◌==◌, Option, Some, None, if◌then◌else◌}
use Rattle.std.specs.Char.{is_ascii_digit}
use Rattle.std.specs.List.{starts_with}
use Rattle.std.specs.Option.{option_and_then, option_map}
use Rattle.json_bytes.specs.Marks.{begins}
use Rattle.json_bytes.specs.declared.strings.Meaning.{Meaning}
use Rattle.json_bytes.specs.declared.strings.Meaning.TheVariants as meaning
use Rattle.json_bytes.specs.declared.strings.StringBytes.{StringBytes}
use Rattle.json_bytes.specs.declared.strings.StringBytes.TheVariants as kept

-- The value of a hexadecimal digit.
abbrev pub hex_digit : ℕ → Option ℕ
hex_digit b =
    if is_ascii_digit b then Some (b - 48)
    else if nat_le 65 b && nat_le b 70 then Some (b - 55)
    else if nat_le 97 b && nat_le b 102 then Some (b - 87)
    else None

-- The number that the four hexadecimal digits from a place on write, where they all are such digits.
abbrev pub hex_at : ℕ → List ℕ → Option ℕ
hex_at at text =
    option_and_then (λ a. option_and_then (λ b. option_and_then (λ c. option_and_then (λ d.
    Some (4096 * a + 256 * b + 16 * c + d))
    (hex_digit (slice_index text (at + 3))))
    (hex_digit (slice_index text (at + 2))))
    (hex_digit (slice_index text (at + 1))))
    (hex_digit (slice_index text at))

-- `\uXXXX` is a unit of UTF-16.
abbrev pub unit_at : List ℕ → Option ℕ
unit_at text = if starts_with nat_eq text (92 ∷ 117 ∷ []) && nat_le 6 (length text) then hex_at 2 text else None

-- The first and the second half of a pair of surrogates. Unicode, section 3.9.
abbrev pub is_high : ℕ → Bool
is_high unit = nat_le 55296 unit && nat_le unit 56319

abbrev pub is_low : ℕ → Bool
is_low unit = nat_le 56320 unit && nat_le unit 57343

-- The character of both.
abbrev pub paired : ℕ → ℕ → ℕ
paired high low = 65536 + 1024 * (high - 55296) + (low - 56320)

-- The character of a unit alone; half a pair is the replacement character (ours).
abbrev pub alone : ℕ → ℕ
alone unit = if nat_le 55296 unit && nat_le unit 57343 then 65533 else unit

-- The character at the front that is written by its units, and how many bytes it has.
abbrev pub joined : ℕ → Option ℕ → Meaning × ℕ
joined first None = (meaning.Character (alone first), 6)
joined first (Some second) =
    if is_high first && is_low second then (meaning.Character (paired first second), 12)
    else (meaning.Character (alone first), 6)

abbrev pub character_at : List ℕ → Option (Meaning × ℕ)
character_at text = option_map (λ first. joined first (unit_at (drop 6 text))) (unit_at text)

-- The byte that stands behind a backslash, and the one that is meant.
abbrev pub escaped : ℕ → Option ℕ
escaped b =
    if (b == 34) || (b == 92) || (b == 47) then Some b
    else if b == 98 then Some 8
    else if b == 102 then Some 12
    else if b == 110 then Some 10
    else if b == 114 then Some 13
    else if b == 116 then Some 9
    else None

-- What the front of a string's text means, and how many bytes say so: an escape, or a byte from 32 on by itself.
abbrev pub item_at : List ℕ → Option (Meaning × ℕ)
item_at text =
    let first = slice_index text 0 in
    if starts_with nat_eq text (92 ∷ 117 ∷ []) then character_at text
    else if first == 92 then option_map (λ b. (meaning.Byte b, 2)) (escaped (slice_index text 1))
    else if nat_lt first 32 then None
    else Some (meaning.Byte first, 1)

-- Private: a byte that stands by itself, wherever it comes in the text: no quote, no backslash and no control.
abbrev pub is_plain : ℕ → Bool
is_plain b = nat_le 32 b && (not (b == 34) && not (b == 92))

-- Private: any other byte.
abbrev pub is_other : ℕ → Bool
is_other b = not (is_plain b)

-- The bytes that are meant; a character's in UTF-8.
abbrev pub bytes_of : Meaning → List ℕ
bytes_of (meaning.Byte b) = b ∷ []
bytes_of (meaning.Character c) = encode_utf8 c

-- The bytes that were read of a string.
abbrev pub meant : StringBytes → List ℕ
meant (kept.Standing bytes) = bytes.now
meant (kept.Written bytes) = bytes.items

-- What was read behind something that means these bytes.
abbrev pub with_front : List ℕ → Option (List ℕ × List ℕ) → Option (List ℕ × List ℕ)
with_front front read = option_map (λ r. (front ++ r.0, r.1)) read

abbrev pub go_on : (ℕ → Option (List ℕ × List ℕ)) → Option (Meaning × ℕ) → Option (List ℕ × List ℕ)
go_on more None = None
go_on more (Some item) = with_front (bytes_of item.0) (more (item.1 - 1))

-- The text of a string up to its quote, of which so many bytes at the front belong to the item before: the bytes that
-- it means, and what stands behind the quote.
abbrev pub items : ℕ → List ℕ → Option (List ℕ × List ℕ)
items belong [] = None
items (suc belong) (b ∷ bs) = items belong bs
items zero (b ∷ bs) = if b == 34 then Some ([], bs) else go_on (λ belong. items belong bs) (item_at (b ∷ bs))

-- The string at the front.
abbrev pub string_at : List ℕ → Option (List ℕ × List ℕ)
string_at text = if begins 34 text then items 0 (drop 1 text) else None
