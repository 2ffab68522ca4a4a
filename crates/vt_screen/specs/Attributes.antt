-- The four character attributes of a rendition, and the byte that stands for them.
use Rattle.std.specs.Prelude.{ℕ, ◌+◌, ◌*◌, ◌/◌, ◌%◌, Bool, false, ◌==◌, if◌then◌else◌}

-- bold, underscore, blink and reverse (EK-VT100-UG chapter 3, SGR)
pub record Attributes : Type 0 where
  pub bold : Bool
  pub underscore : Bool
  pub blink : Bool
  pub reverse : Bool

-- no attribute at all
abbrev pub plain : Attributes
plain = record { bold = false; underscore = false; blink = false; reverse = false }

-- a rendition's byte: bit 0 is bold, bit 1 underscore, bit 2 blink, bit 3 reverse (ours)
abbrev pub attributes_of : ℕ → Attributes
attributes_of byte = record {
  bold = byte % 2 == 1;
  underscore = byte / 2 % 2 == 1;
  blink = byte / 4 % 2 == 1;
  reverse = byte / 8 % 2 == 1;
}

-- what a truth value adds to the byte
abbrev pub bit : Bool → ℕ
bit b = if b then 1 else 0

abbrev pub byte_of : Attributes → ℕ
byte_of a = bit a.bold + 2 * bit a.underscore + 4 * bit a.blink + 8 * bit a.reverse
