-- Private: cells as two numbers.
use Rattle.std.specs.Prelude.{◌≡◌, ◌≢◌, ℕ, ◌+◌, ◌-◌, ◌*◌, ◌/◌, ◌%◌, ◌<◌, ◌==◌, Bool, nat_lt, List, [], ◌∷◌, if◌then◌else◌}
use Rattle.std.specs.Char.{IsScalar}
use Rattle.sheet.specs.declared.rendition.Colour.{Colour}
use Rattle.sheet.specs.declared.rendition.Colour.TheVariants.{Default, Palette, Direct}
use Rattle.sheet.specs.declared.rendition.Rendition.{Rendition}
use Rattle.sheet.specs.declared.cell.Kind.{Kind}
use Rattle.sheet.specs.declared.cell.Kind.TheVariants.{Narrow, Wide, Covered}
use Rattle.sheet.specs.Cells.{Cell}
use Rattle.std.proofs.Common.{zero, suc, refl, sym, ap, ap₂, inl, inr, ◌∙◌, arith}
use Rattle.std.proofs.lemmas.Bool.{cases_eq, cases_lt}
use Rattle.std.proofs.lemmas.Bool.Decides.{nat_tests}
use Rattle.std.proofs.Math.Nat.{div-add-mod', mod-eq_of_lt}

-- the marks of two numbers: 0 is none, and a mark's number is one more than its code
abbrev pub marks_of : ℕ → ℕ → List ℕ
marks_of zero second = []
marks_of (suc first) zero = first ∷ []
marks_of (suc first) (suc second) = first ∷ second ∷ []

-- the number of the first mark
abbrev pub first_number : List ℕ → ℕ
first_number [] = 0
first_number (mark ∷ marks) = suc mark

-- the number of the second mark
abbrev pub second_number : List ℕ → ℕ
second_number [] = 0
second_number (mark ∷ marks) = first_number marks

-- a number is none or a mark's, and there is a second mark only behind a first one
pub record AreNumbers (first second : ℕ) : Type 0 where
  pub one : first ≢ 0 → IsScalar (first - 1)
  pub two : second ≢ 0 → IsScalar (second - 1)
  pub order : first ≡ 0 → second ≡ 0

-- a colour's number: 0 is the default, 1 + n number n of the palette, 257 and more red, green and blue
unfoldable pub colour_number : Colour → ℕ
colour_number Default = 0
colour_number (Palette n) = 1 + n
colour_number (Direct red green blue) = 257 + (red * 65536 + green * 256 + blue)

-- the colour of a number
unfoldable pub colour_of : ℕ → Colour
colour_of number =
    if number == 0
    then Default
    else (if nat_lt number 257
    then Palette (number - 1)
    else Direct ((number - 257) / 65536) ((number - 257) / 256 % 256) ((number - 257) % 256))

-- what a truth value adds to a number
abbrev pub bit : Bool → ℕ
bit b = if b then 1 else 0

-- the attributes of a rendition: bit 0 is bold, and so on in the order of its fields up to bit 7
unfoldable pub attribute_number : Rendition → ℕ
attribute_number r =
    bit r.bold + 2 * bit r.faint + 4 * bit r.italic + 8 * bit r.underscore
    + 16 * bit r.blink + 32 * bit r.reverse + 64 * bit r.concealed + 128 * bit r.crossed_out

-- the rendition of a number of attributes and two of colours
unfoldable pub rendition_of : ℕ → ℕ → ℕ → Rendition
rendition_of bits ink paper = record {
  bold = bits % 2 == 1;
  faint = bits / 2 % 2 == 1;
  italic = bits / 4 % 2 == 1;
  underscore = bits / 8 % 2 == 1;
  blink = bits / 16 % 2 == 1;
  reverse = bits / 32 % 2 == 1;
  concealed = bits / 64 % 2 == 1;
  crossed_out = bits / 128 % 2 == 1;
  ink = colour_of ink;
  paper = colour_of paper;
}

-- the number of a kind
abbrev pub kind_number : Kind → ℕ
kind_number Narrow = 0
kind_number Wide = 1
kind_number Covered = 2

-- the kind of a number
unfoldable pub kind_of : ℕ → Kind
kind_of number = if number == 0 then Narrow else (if number == 1 then Wide else Covered)

-- a character in 21 bits, and the numbers of two marks in 21 each
unfoldable pub text_number : ℕ → ℕ → ℕ → ℕ
text_number character first second = (second * 2097152 + first) * 2097152 + character

-- the number of the ink in 25 bits, that of the paper in 25, the attributes in 8, and the kind
unfoldable pub style_number : Kind → Rendition → ℕ
style_number kind r =
    ((kind_number kind * 256 + attribute_number r) * 33554432 + colour_number r.paper) * 33554432 + colour_number r.ink

-- the cell of two numbers
unfoldable pub cell_of : ℕ → ℕ → Cell
cell_of text style = record {
  kind = kind_of (style / 33554432 / 33554432 / 256);
  character = text % 2097152;
  marks = marks_of (text / 2097152 % 2097152) (text / 2097152 / 2097152);
  rendition = rendition_of (style / 33554432 / 33554432 % 256) (style % 33554432) (style / 33554432 % 33554432);
}

-- the two numbers are a cell's
pub record AreCell (text style : ℕ) : Type 0 where
  pub character : IsScalar (text % 2097152)
  pub numbers : AreNumbers (text / 2097152 % 2097152) (text / 2097152 / 2097152)
  pub ink : style % 33554432 < 16777473
  pub paper : style / 33554432 % 33554432 < 16777473
  pub kind : style / 33554432 / 33554432 / 256 < 3

-- the rendition that a cell's second number holds
unfoldable pub pen_of : ℕ → Rendition
pen_of style =
    rendition_of (style / 33554432 / 33554432 % 256) (style % 33554432) (style / 33554432 % 33554432)

-- the second number of a cell of a rendition, where its kind is 0
unfoldable pub pen_number : Rendition → ℕ
pen_number r = (attribute_number r * 33554432 + colour_number r.paper) * 33554432 + colour_number r.ink

-- a number is a rendition's
pub record IsPen (style : ℕ) : Type 0 where
  pub ink : style % 33554432 < 16777473
  pub paper : style / 33554432 % 33554432 < 16777473
  pub bits : style / 33554432 / 33554432 < 256

-- the paper that the second number of a blank cell holds
unfoldable pub paper_of : ℕ → Colour
paper_of style = colour_of (style / 33554432)

-- the second number of a blank cell
unfoldable pub paper_number : Colour → ℕ
paper_number paper = colour_number paper * 33554432

-- a number is a paper's
pub record IsPaper (style : ℕ) : Type 0 where
  pub ink : style % 33554432 ≡ 0
  pub paper : style / 33554432 < 16777473

-- marks and their numbers give each other
pub first_again : (first second : ℕ) → first_number (marks_of first second) ≡ first
first_again zero second = refl
first_again (suc first) zero = refl
first_again (suc first) (suc second) = refl

pub second_again : (first second : ℕ) → (first ≡ 0 → second ≡ 0) → second_number (marks_of first second) ≡ second
second_again zero second order = sym (order refl)
second_again (suc first) zero order = refl
second_again (suc first) (suc second) order = refl

-- so do colours, kinds, attributes and their numbers
pub colour_again : (n : ℕ) → n < 16777473 → colour_number (colour_of n) ≡ n
unfolding colour_number colour_of
colour_again n below =
    elim (cases_eq n 0) [
      | inl none ↦ grind (arith, nat_tests)
      | inr some ↦ elim (cases_lt n 257) [
        | inl few ↦ grind (arith, nat_tests)
        | inr more ↦ grind (arith, nat_tests)
      ]
    ]

pub kind_again : (n : ℕ) → n < 3 → kind_number (kind_of n) ≡ n
unfolding kind_of
kind_again n below =
    elim (cases_eq n 0) [
      | inl none ↦ grind (arith, nat_tests)
      | inr some ↦ elim (cases_eq n 1) [ inl one ↦ grind (arith, nat_tests) | inr two ↦ grind (arith, nat_tests) ]
    ]

bit_again : (n : ℕ) → bit (n % 2 == 1) ≡ n % 2
bit_again n = elim (cases_eq (n % 2) 1) [ inl odd ↦ grind (arith, nat_tests) | inr even ↦ grind (arith, nat_tests) ]

pub attributes_again : (n ink paper : ℕ) → n < 256 → attribute_number (rendition_of n ink paper) ≡ n
unfolding attribute_number rendition_of
attributes_again n ink paper below =
    omega (arith, bit_again n, bit_again (n / 2), bit_again (n / 4), bit_again (n / 8), bit_again (n / 16), bit_again (n / 32), bit_again (n / 64), bit_again (n / 128))

ink_again : (bits ink paper : ℕ) → ink < 16777473 → colour_number (rendition_of bits ink paper).ink ≡ ink
unfolding rendition_of
ink_again bits ink paper below = colour_again ink below

ground_again : (bits ink paper : ℕ) → paper < 16777473 → colour_number (rendition_of bits ink paper).paper ≡ paper
unfolding rendition_of
ground_again bits ink paper below = colour_again paper below

-- a cell's numbers are those of its parts
pub text_again : (text style : ℕ) → AreCell text style
    → text_number (cell_of text style).character (first_number (cell_of text style).marks) (second_number (cell_of text style).marks) ≡ text
unfolding text_number cell_of
text_again text style are =
    let first = text / 2097152 % 2097152 in
    let second = text / 2097152 / 2097152 in
    ap₂ (λ (a b : ℕ). (b * 2097152 + a) * 2097152 + text % 2097152) (first_again first second) (second_again first second are.numbers.order)
    ∙ ap (λ (m : ℕ). m * 2097152 + text % 2097152) (div-add-mod' (text / 2097152) 2097152) ∙ div-add-mod' text 2097152

pub style_again : (text style : ℕ) → AreCell text style → style_number (cell_of text style).kind (cell_of text style).rendition ≡ style
unfolding style_number cell_of
style_again text style are =
    let high = style / 33554432 / 33554432 in
    let ink = style % 33554432 in
    let paper = style / 33554432 % 33554432 in
    let all : kind_number (kind_of (high / 256)) * 256 + attribute_number (rendition_of (high % 256) ink paper) ≡ high =
    ap₂ (λ (k a : ℕ). k * 256 + a) (kind_again (high / 256) are.kind) (attributes_again (high % 256) ink paper (omega arith)) ∙ div-add-mod' high 256 in
    ap₂ (λ (h i : ℕ). (h * 33554432 + colour_number (rendition_of (high % 256) ink paper).paper) * 33554432 + i) all (ink_again (high % 256) ink paper are.ink)
    ∙ ap (λ (p : ℕ). (high * 33554432 + p) * 33554432 + ink) (ground_again (high % 256) ink paper are.paper)
    ∙ ap (λ (m : ℕ). m * 33554432 + ink) (div-add-mod' (style / 33554432) 33554432) ∙ div-add-mod' style 33554432

-- so do renditions, papers and theirs
pub pen_again : (style : ℕ) → IsPen style → pen_number (pen_of style) ≡ style
unfolding pen_number pen_of
pen_again style is =
    let high = style / 33554432 / 33554432 in
    let ink = style % 33554432 in
    let paper = style / 33554432 % 33554432 in
    let all : attribute_number (rendition_of (high % 256) ink paper) ≡ high = attributes_again (high % 256) ink paper (omega arith) ∙ mod-eq_of_lt is.bits in
    ap₂ (λ (h i : ℕ). (h * 33554432 + colour_number (rendition_of (high % 256) ink paper).paper) * 33554432 + i) all (ink_again (high % 256) ink paper is.ink)
    ∙ ap (λ (p : ℕ). (high * 33554432 + p) * 33554432 + ink) (ground_again (high % 256) ink paper is.paper)
    ∙ ap (λ (m : ℕ). m * 33554432 + ink) (div-add-mod' (style / 33554432) 33554432) ∙ div-add-mod' style 33554432

pub paper_again : (style : ℕ) → IsPaper style → paper_number (paper_of style) ≡ style
unfolding paper_number paper_of
paper_again style is = ap (λ (m : ℕ). m * 33554432) (colour_again (style / 33554432) is.paper) ∙ omega (arith, is.ink)
