-- Cells as two numbers.
use Rattle.std.proofs.Common.{[], ◌≡◌, ◌≢◌, ℕ, ◌+◌, ◌-◌, ◌*◌, ◌/◌, ◌%◌, ◌<◌, ◌≤◌, Bool, true, false, refl, sym, ap, ap₂, inl, inr, ◌∙◌, subst, arith}
use Rattle.std.specs.Prelude.{◌==◌}
use Rattle.std.specs.Char.{IsScalar}
use Rattle.std.proofs.lemmas.Bool.{cases_eq}
use Rattle.std.proofs.lemmas.Bool.Decides.{nat_tests}
use Rattle.std.proofs.lemmas.Nat.{div-mul-add, mod-mul-add}
use Rattle.std.proofs.Math.Utf8.{scalar_cases}
use Rattle.sheet.specs.declared.rendition.Colour.{Colour}
use Rattle.sheet.specs.declared.rendition.Rendition.{Rendition}
use Rattle.sheet.specs.declared.cell.Kind.{Kind}
use Rattle.sheet.specs.declared.rendition.Colour.TheVariants.{Default, Palette, Direct}
use Rattle.sheet.specs.declared.cell.Kind.TheVariants.{Narrow, Wide, Covered}
use Rattle.sheet.specs.Cells.{Cell, blank, plain_on}
use Rattle.sheet.specs.Numbers.{AreCell, AreNumbers, IsPaper, IsPen, attribute_number, attributes_again, bit, cell_of, colour_of, first_number, kind_of, marks_of, paper_of, pen_of, rendition_of, second_number, style_again, style_number, text_again, text_number}

-- a character takes 21 bits
pub scalar_below : (c : ℕ) → IsScalar c → c < 1114112
scalar_below c scalar = elim (scalar_cases c scalar) [ inl low ↦ omega arith | inr high ↦ high.1 ]

pub number_below : (n : ℕ) → (n ≢ 0 → IsScalar (n - 1)) → n < 1114113
number_below n is = elim (cases_eq n 0) [ inl none ↦ omega arith | inr some ↦ omega (arith, scalar_below (n - 1) (is some)) ]

-- kinds and colours by their numbers
pub narrow_made : kind_of 0 ≡ Narrow
unfolding kind_of
narrow_made = refl

pub wide_made : kind_of 1 ≡ Wide
unfolding kind_of
wide_made = refl

pub covered_made : kind_of 2 ≡ Covered
unfolding kind_of
covered_made = refl

pub default_made : colour_of 0 ≡ Default
unfolding colour_of
default_made = refl

pub palette_made : (n : ℕ) → n < 256 → colour_of (1 + n) ≡ Palette n
unfolding colour_of
palette_made n below = let e : 1 + n - 1 ≡ n = omega arith in grind (arith, nat_tests)

pub direct_made : (red green blue : ℕ) → red < 256 → green < 256 → blue < 256 → colour_of (257 + (red * 65536 + green * 256 + blue)) ≡ Direct red green blue
unfolding colour_of
direct_made red green blue a b c =
    let r : (257 + (red * 65536 + green * 256 + blue) - 257) / 65536 ≡ red = omega arith in
    let g : (257 + (red * 65536 + green * 256 + blue) - 257) / 256 % 256 ≡ green = omega arith in
    let h : (257 + (red * 65536 + green * 256 + blue) - 257) % 256 ≡ blue = omega arith in
    grind (arith, nat_tests)

pub blank_made : cell_of 32 0 ≡ blank Default
unfolding blank cell_of colour_of kind_of rendition_of
blank_made = refl

bit_test : (b : Bool) → (bit b == 1) ≡ b
bit_test true = refl
bit_test false = refl

bit_low : (b : Bool) → bit b ≤ 1
bit_low true = omega arith
bit_low false = omega arith

-- attributes are 8 bits
module _ (r : Rendition) where
  pub attributes_below : attribute_number r < 256
  unfolding attribute_number
  attributes_below =
      omega (arith, bit_low r.bold, bit_low r.faint, bit_low r.italic, bit_low r.underscore, bit_low r.blink, bit_low r.reverse, bit_low r.concealed, bit_low r.crossed_out)

  at_bit : (n : ℕ) (b : Bool) → n ≡ bit b → (n == 1) ≡ b
  at_bit n b is = ap (λ (m : ℕ). m == 1) is ∙ bit_test b

  pub rendition_made : (ink paper : ℕ) → colour_of ink ≡ r.ink → colour_of paper ≡ r.paper → rendition_of (attribute_number r) ink paper ≡ r
  unfolding attribute_number rendition_of
  rendition_made ink paper is_ink is_paper =
      let l1 = bit_low r.bold in
      let l2 = bit_low r.faint in
      let l3 = bit_low r.italic in
      let l4 = bit_low r.underscore in
      let l5 = bit_low r.blink in
      let l6 = bit_low r.reverse in
      let l7 = bit_low r.concealed in
      let l8 = bit_low r.crossed_out in
      let b1 : attribute_number r % 2 ≡ bit r.bold = omega arith in
      let b2 : attribute_number r / 2 % 2 ≡ bit r.faint = omega arith in
      let b3 : attribute_number r / 4 % 2 ≡ bit r.italic = omega arith in
      let b4 : attribute_number r / 8 % 2 ≡ bit r.underscore = omega arith in
      let b5 : attribute_number r / 16 % 2 ≡ bit r.blink = omega arith in
      let b6 : attribute_number r / 32 % 2 ≡ bit r.reverse = omega arith in
      let b7 : attribute_number r / 64 % 2 ≡ bit r.concealed = omega arith in
      let b8 : attribute_number r / 128 % 2 ≡ bit r.crossed_out = omega arith in
      λ i. record {
        bold = at_bit _ r.bold b1 i;
        faint = at_bit _ r.faint b2 i;
        italic = at_bit _ r.italic b3 i;
        underscore = at_bit _ r.underscore b4 i;
        blink = at_bit _ r.blink b5 i;
        reverse = at_bit _ r.reverse b6 i;
        concealed = at_bit _ r.concealed b7 i;
        crossed_out = at_bit _ r.crossed_out b8 i;
        ink = is_ink i;
        paper = is_paper i;
      }

-- What a cell of its parts shows.
module _ (text style character first second k a p n : ℕ) (kind : Kind) (r : Rendition)
    (is_text : text ≡ (second * 2097152 + first) * 2097152 + character) (is_style : style ≡ ((k * 256 + a) * 33554432 + p) * 33554432 + n)
    (scalar : IsScalar character) (numbers : AreNumbers first second)
    (k_below : k < 3) (a_is : a ≡ attribute_number r) (p_below : p < 16777473) (n_below : n < 16777473)
    (is_kind : kind_of k ≡ kind) (is_ink : colour_of n ≡ r.ink) (is_paper : colour_of p ≡ r.paper) where
  low : text % 2097152 ≡ character
  low = ap (λ (m : ℕ). m % 2097152) is_text ∙ mod-mul-add (second * 2097152 + first) 2097152 character (omega (arith, scalar_below character scalar))

  high : text / 2097152 ≡ second * 2097152 + first
  high = ap (λ (m : ℕ). m / 2097152) is_text ∙ div-mul-add (second * 2097152 + first) 2097152 character (omega (arith, scalar_below character scalar))

  one : text / 2097152 % 2097152 ≡ first
  one = ap (λ (m : ℕ). m % 2097152) high ∙ mod-mul-add second 2097152 first (omega (arith, number_below first numbers.one))

  two : text / 2097152 / 2097152 ≡ second
  two = ap (λ (m : ℕ). m / 2097152) high ∙ div-mul-add second 2097152 first (omega (arith, number_below first numbers.one))

  ink : style % 33554432 ≡ n
  ink = ap (λ (m : ℕ). m % 33554432) is_style ∙ mod-mul-add ((k * 256 + a) * 33554432 + p) 33554432 n (omega arith)

  rest : style / 33554432 ≡ (k * 256 + a) * 33554432 + p
  rest = ap (λ (m : ℕ). m / 33554432) is_style ∙ div-mul-add ((k * 256 + a) * 33554432 + p) 33554432 n (omega arith)

  paper : style / 33554432 % 33554432 ≡ p
  paper = ap (λ (m : ℕ). m % 33554432) rest ∙ mod-mul-add (k * 256 + a) 33554432 p (omega arith)

  top : style / 33554432 / 33554432 ≡ k * 256 + a
  top = ap (λ (m : ℕ). m / 33554432) rest ∙ div-mul-add (k * 256 + a) 33554432 p (omega arith)

  a_below : a < 256
  a_below = omega (arith, a_is, attributes_below r)

  bits : style / 33554432 / 33554432 % 256 ≡ a
  bits = ap (λ (m : ℕ). m % 256) top ∙ mod-mul-add k 256 a a_below

  sort : style / 33554432 / 33554432 / 256 ≡ k
  sort = ap (λ (m : ℕ). m / 256) top ∙ div-mul-add k 256 a a_below

  pub made_cell : AreCell text style
  made_cell = record {
    character = subst IsScalar (sym low) scalar;
    numbers = subst (λ (m : ℕ). AreNumbers m (text / 2097152 / 2097152)) (sym one) (subst (λ (m : ℕ). AreNumbers first m) (sym two) numbers);
    ink = omega (arith, ink);
    paper = omega (arith, paper);
    kind = omega (arith, sort);
  }

  pub made_is : cell_of text style ≡ record { kind = kind; character = character; marks = marks_of first second; rendition = r }
  unfolding cell_of
  made_is = λ i. record {
    kind = (ap kind_of sort ∙ is_kind) i;
    character = low i;
    marks = ap₂ marks_of one two i;
    rendition = (ap (λ (m : ℕ). rendition_of m (style % 33554432) (style / 33554432 % 33554432)) (bits ∙ a_is)
        ∙ ap₂ (rendition_of (attribute_number r)) ink paper ∙ rendition_made r n p is_ink is_paper) i;
  }

-- ---- pens

-- the numbers of a pen that is seen, and of a cell of it
module _ (style : ℕ) (r : Rendition) (is : IsPen style) (seen : pen_of style ≡ r) where
  pub pen_bits : style / 33554432 / 33554432 % 256 ≡ attribute_number r
  unfolding pen_of
  pen_bits = sym (attributes_again (style / 33554432 / 33554432 % 256) (style % 33554432) (style / 33554432 % 33554432) (omega arith)) ∙ ap attribute_number seen

  pub pen_ink : colour_of (style % 33554432) ≡ r.ink
  unfolding pen_of rendition_of
  pen_ink = ap (λ (s : Rendition). s.ink) seen

  pub pen_paper : colour_of (style / 33554432 % 33554432) ≡ r.paper
  unfolding pen_of rendition_of
  pen_paper = ap (λ (s : Rendition). s.paper) seen

  pub pen_joined : (k : ℕ) → k * 288230376151711744 + style
      ≡ ((k * 256 + style / 33554432 / 33554432 % 256) * 33554432 + style / 33554432 % 33554432) * 33554432 + style % 33554432
  pen_joined k = omega (arith, is.bits)

space : IsScalar 32
space = refl

no_numbers : AreNumbers 0 0
no_numbers = record { one = λ some. absurd (some refl); two = λ some. absurd (some refl); order = λ none. none }

few : 0 < 3
few = omega arith

-- a pen of its numbers
module _ (style a p n : ℕ) (r : Rendition) (is_style : style ≡ (a * 33554432 + p) * 33554432 + n)
    (a_is : a ≡ attribute_number r) (p_below : p < 16777473) (n_below : n < 16777473) (is_ink : colour_of n ≡ r.ink) (is_paper : colour_of p ≡ r.paper) where
  as_cell : cell_of 32 style ≡ record { kind = Narrow; character = 32; marks = []; rendition = r }
  as_cell =
      made_is 32 style 32 0 0 0 a p n Narrow r refl (omega (arith, is_style)) space no_numbers few a_is p_below n_below narrow_made is_ink is_paper

  pub made_pen : IsPen style
  made_pen = record {
    ink = omega (arith, is_style);
    paper = omega (arith, is_style);
    bits = omega (arith, is_style, a_is, attributes_below r);
  }

  pub pen_is : pen_of style ≡ r
  unfolding pen_of cell_of
  pen_is = ap (λ (c : Cell). c.rendition) as_cell

-- that of a cell
module _ (text style : ℕ) (cell : Cell) (are : AreCell text style) (seen : cell_of text style ≡ cell) where
  cells_ink : style % 288230376151711744 % 33554432 ≡ style % 33554432
  cells_ink = omega arith

  cells_paper : style % 288230376151711744 / 33554432 % 33554432 ≡ style / 33554432 % 33554432
  cells_paper = omega arith

  same_bits : style % 288230376151711744 / 33554432 / 33554432 ≡ style / 33554432 / 33554432 % 256
  same_bits = omega arith

  pub cells_pen : IsPen (style % 288230376151711744)
  cells_pen = record { ink = omega (arith, cells_ink, are.ink); paper = omega (arith, cells_paper, are.paper); bits = omega (arith, same_bits) }

  pub cells_pen_is : pen_of (style % 288230376151711744) ≡ cell.rendition
  unfolding pen_of cell_of
  cells_pen_is =
      ap₂ (rendition_of (style % 288230376151711744 / 33554432 / 33554432 % 256)) cells_ink cells_paper
      ∙ ap (λ (b : ℕ). rendition_of b (style % 33554432) (style / 33554432 % 33554432)) (ap (λ (b : ℕ). b % 256) same_bits ∙ omega arith)
      ∙ ap (λ (c : Cell). c.rendition) seen

-- ---- papers

module _ (style : ℕ) (paper : Colour) (is : IsPaper style) (seen : paper_of style ≡ paper) where
  pub papers_pen : IsPen style
  papers_pen = record { ink = omega (arith, is.ink); paper = omega (arith, is.paper); bits = omega (arith, is.paper) }

  no_bits : style / 33554432 / 33554432 % 256 ≡ 0
  no_bits = omega (arith, is.paper)

  same_paper : style / 33554432 % 33554432 ≡ style / 33554432
  same_paper = omega (arith, is.paper)

  pub plain_is : pen_of style ≡ plain_on paper
  unfolding pen_of paper_of rendition_of colour_of
  plain_is =
      ap₂ (rendition_of (style / 33554432 / 33554432 % 256)) is.ink same_paper
      ∙ ap (λ (b : ℕ). rendition_of b 0 (style / 33554432)) no_bits
      ∙ ap plain_on seen

-- the numbers of a cell that is seen
pub text_seen : (text style : ℕ) (cell : Cell) → AreCell text style → cell_of text style ≡ cell → text ≡ text_number cell.character (first_number cell.marks) (second_number cell.marks)
text_seen text style cell are seen =
    sym (text_again text style are) ∙ ap (λ (c : Cell). text_number c.character (first_number c.marks) (second_number c.marks)) seen

pub style_seen : (text style : ℕ) (cell : Cell) → AreCell text style → cell_of text style ≡ cell → style ≡ style_number cell.kind cell.rendition
style_seen text style cell are seen = sym (style_again text style are) ∙ ap (λ (c : Cell). style_number c.kind c.rendition) seen

-- a cell whose second number is small is a character of one column
pub small_narrow : (text style : ℕ) → style < 288230376151711744 → (cell_of text style).kind ≡ Narrow
unfolding cell_of kind_of
small_narrow text style small = let none : style / 33554432 / 33554432 / 256 ≡ 0 = omega arith in rw none refl
