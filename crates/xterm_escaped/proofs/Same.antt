-- Renditions of the same numbers are one.
use Rattle.std.proofs.Common.{◌≡◌, ℕ, ◌+◌, ◌*◌, Bool, true, false, refl, sym, ◌∙◌, arith}
use Rattle.std.proofs.lemmas.Bool.{and_parts, eqb-true}
use Rattle.sheet.specs.declared.rendition.Colour.{Colour}
use Rattle.sheet.specs.declared.rendition.Colour.TheVariants.{Default, Palette, Direct}
use Rattle.sheet.specs.declared.rendition.Rendition.{Rendition}
use Rattle.xterm_rows.specs.Ink.{attribute_number, bit, colour_number}
use Rattle.xterm_escaped.specs.EscapedText.{same_rendition}
use Rattle.xterm_escaped.proofs.Colours.{IsByteColour}

bit_apart : (a b : Bool) (x y : ℕ) → bit a + 2 * x ≡ bit b + 2 * y → (a ≡ b) × (x ≡ y)
bit_apart true true x y e = (refl, omega arith)
bit_apart false false x y e = (refl, omega arith)
bit_apart true false x y e = absurd (omega arith)
bit_apart false true x y e = absurd (omega arith)

bit_same : (a b : Bool) → bit a ≡ bit b → a ≡ b
bit_same true true e = refl
bit_same false false e = refl
bit_same true false e = absurd (omega arith)
bit_same false true e = absurd (omega arith)

nested : (a b c d e f g h : ℕ) → a + 2 * b + 4 * c + 8 * d + 32 * e + 64 * f + 128 * g + 256 * h
    ≡ a + 2 * (b + 2 * (c + 2 * (d + 2 * (0 + 2 * (e + 2 * (f + 2 * (g + 2 * h)))))))
nested a b c d e f g h = omega arith

number_is : (r : Rendition) → attribute_number r ≡ bit r.bold + 2 * (bit r.underscore + 2 * (bit r.blink + 2 * (bit r.reverse
    + 2 * (bit false + 2 * (bit r.faint + 2 * (bit r.italic + 2 * (bit r.concealed + 2 * bit r.crossed_out)))))))
unfolding attribute_number
number_is r = nested (bit r.bold) (bit r.underscore) (bit r.blink) (bit r.reverse) (bit r.faint) (bit r.italic) (bit r.concealed) (bit r.crossed_out)

pub colour_same : (c d : Colour) → IsByteColour c → IsByteColour d → colour_number c ≡ colour_number d → c ≡ d
unfolding colour_number
colour_same Default Default is other e = refl
colour_same Default (Palette n) is other e = absurd (omega arith)
colour_same Default (Direct red green blue) is other e = absurd (omega arith)
colour_same (Palette n) Default is other e = absurd (omega arith)
colour_same (Palette n) (Palette m) is other e = let same : n ≡ m = omega arith in cc
colour_same (Palette n) (Direct red green blue) is other e = absurd (omega arith)
colour_same (Direct red green blue) Default is other e = absurd (omega arith)
colour_same (Direct red green blue) (Palette n) is other e = absurd (omega arith)
colour_same (Direct red green blue) (Direct r g b) is other e =
    let red_low = is.0 in let green_low = is.1 in let blue_low = is.2 in
    let r_low = other.0 in let g_low = other.1 in let b_low = other.2 in
    let one : red ≡ r = omega arith in
    let two : green ≡ g = omega arith in
    let three : blue ≡ b = omega arith in
    cc

whole : (bold faint italic underscore blink reverse concealed crossed_out : Bool) (ink paper : Colour) → Rendition
whole bold faint italic underscore blink reverse concealed crossed_out ink paper = record {
  bold = bold;
  faint = faint;
  italic = italic;
  underscore = underscore;
  blink = blink;
  reverse = reverse;
  concealed = concealed;
  crossed_out = crossed_out;
  ink = ink;
  paper = paper;
}

whole_same : (r s : Rendition) → r.bold ≡ s.bold → r.faint ≡ s.faint → r.italic ≡ s.italic → r.underscore ≡ s.underscore → r.blink ≡ s.blink
    → r.reverse ≡ s.reverse → r.concealed ≡ s.concealed → r.crossed_out ≡ s.crossed_out → r.ink ≡ s.ink → r.paper ≡ s.paper
    → whole r.bold r.faint r.italic r.underscore r.blink r.reverse r.concealed r.crossed_out r.ink r.paper
    ≡ whole s.bold s.faint s.italic s.underscore s.blink s.reverse s.concealed s.crossed_out s.ink s.paper
whole_same r s a b c d e f g h i j = cc

pub same_decides : (r s : Rendition) → IsByteColour r.ink → IsByteColour r.paper → IsByteColour s.ink → IsByteColour s.paper
    → same_rendition r s ≡ true → r ≡ s
unfolding whole
same_decides r s ink paper ink_too paper_too same =
    let outer = and_parts _ _ same in
    let inner = and_parts _ _ outer.0 in
    let numbers = sym (number_is r) ∙ eqb-true _ _ inner.0 ∙ number_is s in
    let bold = bit_apart r.bold s.bold _ _ numbers in
    let underscore = bit_apart r.underscore s.underscore _ _ bold.1 in
    let blink = bit_apart r.blink s.blink _ _ underscore.1 in
    let reverse = bit_apart r.reverse s.reverse _ _ blink.1 in
    let none = bit_apart false false _ _ reverse.1 in
    let faint = bit_apart r.faint s.faint _ _ none.1 in
    let italic = bit_apart r.italic s.italic _ _ faint.1 in
    let concealed = bit_apart r.concealed s.concealed _ _ italic.1 in
    whole_same r s bold.0 faint.0 italic.0 underscore.0 blink.0 reverse.0 concealed.0 (bit_same r.crossed_out s.crossed_out concealed.1)
    (colour_same r.ink s.ink ink ink_too (eqb-true _ _ inner.1)) (colour_same r.paper s.paper paper paper_too (eqb-true _ _ outer.1))
