-- Attributes by their bits.
use Rattle.std.proofs.Common.{◌≡◌, ℕ, ◌+◌, ◌*◌, ◌≤◌, Bool, true, false, refl, sym, ◌∙◌, arith}
use Rattle.std.specs.Prelude.{◌&&◌}
use Rattle.std.proofs.lemmas.Bool.{false≢true}
use Rattle.sheet.specs.declared.rendition.Rendition.{Rendition}
use Rattle.xterm_rows.specs.Ink.{attribute_number, bit}

pub both : (s t : Bool) → (s && t) ≡ true → (s ≡ true) × (t ≡ true)
both true t h = (refl, h)
both false t h = absurd (false≢true h)

pub bit_low : (b : Bool) → bit b ≤ 1
bit_low true = omega arith
bit_low false = omega arith

bits_equal : (a b : Bool) → bit a ≡ bit b → a ≡ b
bits_equal true true h = refl
bits_equal true false h = absurd (omega (arith, h))
bits_equal false true h = absurd (omega (arith, h))
bits_equal false false h = refl

-- the lowest bit, and the number above it
peeled : (a b : Bool) (x y : ℕ) → bit a + 2 * x ≡ bit b + 2 * y → (a ≡ b) × (x ≡ y)
peeled a b x y h =
    let low = bit_low a in
    let low' = bit_low b in
    (bits_equal a b (omega (arith, low, low', h)), omega (arith, low, low', h))

-- the attributes by their bits
pub record SameBits (one other : Rendition) : Type 0 where
  pub bold : one.bold ≡ other.bold
  pub underscore : one.underscore ≡ other.underscore
  pub blink : one.blink ≡ other.blink
  pub reverse : one.reverse ≡ other.reverse
  pub faint : one.faint ≡ other.faint
  pub italic : one.italic ≡ other.italic
  pub concealed : one.concealed ≡ other.concealed
  pub crossed_out : one.crossed_out ≡ other.crossed_out

abbrev above_concealed : Rendition → ℕ
above_concealed r = bit r.crossed_out + 2 * 0

abbrev above_italic : Rendition → ℕ
above_italic r = bit r.concealed + 2 * above_concealed r

abbrev above_faint : Rendition → ℕ
above_faint r = bit r.italic + 2 * above_italic r

abbrev above_gap : Rendition → ℕ
above_gap r = bit r.faint + 2 * above_faint r

abbrev above_blink : Rendition → ℕ
above_blink r = bit r.reverse + 2 * (2 * above_gap r)

abbrev above_underscore : Rendition → ℕ
above_underscore r = bit r.blink + 2 * above_blink r

abbrev above_bold : Rendition → ℕ
above_bold r = bit r.underscore + 2 * above_underscore r

nested : (r : Rendition) → attribute_number r ≡ bit r.bold + 2 * above_bold r
unfolding attribute_number
nested r = omega arith

pub same_bits : (one other : Rendition) → attribute_number one ≡ attribute_number other → SameBits one other
same_bits one other h =
    let a = peeled one.bold other.bold (above_bold one) (above_bold other) (sym (nested one) ∙ h ∙ nested other) in
    let b = peeled one.underscore other.underscore (above_underscore one) (above_underscore other) a.1 in
    let c = peeled one.blink other.blink (above_blink one) (above_blink other) b.1 in
    let d = peeled one.reverse other.reverse (2 * above_gap one) (2 * above_gap other) c.1 in
    let gap : above_gap one ≡ above_gap other = omega (arith, d.1) in
    let e = peeled one.faint other.faint (above_faint one) (above_faint other) gap in
    let f = peeled one.italic other.italic (above_italic one) (above_italic other) e.1 in
    let g = peeled one.concealed other.concealed (above_concealed one) (above_concealed other) f.1 in
    let i = peeled one.crossed_out other.crossed_out 0 0 g.1 in
    record {
      bold = a.0;
      underscore = b.0;
      blink = c.0;
      reverse = d.0;
      faint = e.0;
      italic = f.0;
      concealed = g.0;
      crossed_out = i.0;
    }
