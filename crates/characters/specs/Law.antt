-- What holds of every text: the statements of the crate's laws.
use Rattle.std.specs.Prelude.{◌≡◌, ℕ, ◌≤◌, List, ◌++◌, true}
use Rattle.characters.specs.Utf8.{Decoded, decoded, is_within}
use Rattle.characters.specs.Width.{width}

-- Joined texts are decoded as their parts in turn, also where the cut is inside a character.
abbrev pub DecodesInParts : Type 0
DecodesInParts = (d : Decoded) (first second : List ℕ) → decoded d (first ++ second) ≡ decoded (decoded d first) second

-- Graphic characters of ASCII take a column each.
abbrev pub AsciiIsNarrow : Type 0
AsciiIsNarrow = (c : ℕ) → is_within 32 126 c ≡ true → width c ≡ 1

-- No character takes more than two.
abbrev pub NoneIsWider : Type 0
NoneIsWider = (c : ℕ) → width c ≤ 2
