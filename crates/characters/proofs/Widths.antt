-- Widths of graphic characters of ASCII, and the most that a width is.
use Rattle.std.proofs.Common.{◌≡◌, ℕ, ◌≤◌, Bool, true, false, min, refl, arith}
use Rattle.std.specs.Prelude.{Some, unwrap_or, if◌then◌else◌}
use Rattle.std.proofs.Math.Nat.{min-le_left}
use Rattle.std.proofs.lemmas.Bool.Decides.{nat_tests}
use Rattle.unicode_width.specs.Width.{char_width}
use Rattle.characters.specs.Utf8.{is_within}
use Rattle.characters.specs.Width.{width, is_shown_narrow}
use Rattle.characters.specs.Law.{AsciiIsNarrow, NoneIsWider}

ascii_width : (c : ℕ) → is_within 32 126 c ≡ true → char_width false c ≡ Some 1
unfolding char_width
ascii_width c is = grind (arith, nat_tests)

by_either : (b : Bool) (n : ℕ) → (if b then n else n) ≡ n
by_either true n = refl
by_either false n = refl

pub ascii_is_narrow : AsciiIsNarrow
unfolding width
ascii_is_narrow c is = simp (ascii_width c is) (by_either (is_shown_narrow c) 1)

either_small : (b : Bool) (n : ℕ) → n ≤ 2 → (if b then 1 else n) ≤ 2
either_small true n small = omega arith
either_small false n small = small

pub none_is_wider : NoneIsWider
unfolding width
none_is_wider c = either_small (is_shown_narrow c) (min 2 (unwrap_or (char_width false c) 0)) (min-le_left 2 (unwrap_or (char_width false c) 0))
