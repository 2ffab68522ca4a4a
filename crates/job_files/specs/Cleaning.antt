-- What comes from outside, as it is written to standard error.
use Rattle.std.specs.Prelude.{ℕ, Bool, List, ◌&&◌, ◌||◌, chars, cond, encode_utf8_all, map, nat_le}

-- the characters from one to another
abbrev pub is_between : ℕ → ℕ → ℕ → Bool
is_between first last c = nat_le first c && nat_le c last

-- a control character, a separator of lines or paragraphs, or one that embeds, overrides or isolates a direction:
-- U+0000 to U+001F, U+007F to U+009F, U+2028 to U+202E, U+2066 to U+2069. Unicode, sections 23.1 to 23.3.
abbrev pub is_unclean : ℕ → Bool
is_unclean c = is_between 0 31 c || is_between 127 159 c || is_between 8232 8238 c || is_between 8294 8297 c

-- such a character is written as `?` (ours)
abbrev pub shown : ℕ → ℕ
shown c = cond (is_unclean c) 63 c

-- a text in which each such character is (ours)
abbrev pub cleaned : List ℕ → List ℕ
cleaned text = encode_utf8_all (map shown (chars text))
