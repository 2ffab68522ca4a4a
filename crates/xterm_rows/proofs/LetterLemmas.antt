-- Cells that are blank, and neighbours in one run.
use Rattle.std.proofs.Common.{◌≡◌, ◌≢◌, Bool, ℕ, ◌+◌, ◌*◌, ◌-◌, ◌/◌, ◌<◌, ◌≤◌, get_or, inl, inr, subst, true, false, not, List, [], length, refl, ap, ap₂, ◌∙◌, sym, if◌then◌else◌, arith}
use Rattle.std.specs.Prelude.{◌&&◌, ◌||◌, ◌==◌, nat_eq, nat_lt}
use Rattle.std.proofs.lemmas.Bool.{cases_Bool, cases_eq, eqb-true}
use Rattle.std.proofs.lemmas.Bool.Decides.{nat_tests}
use Rattle.std.proofs.lemmas.List.{get_or_default}
use Rattle.sheet.specs.declared.cell.Kind.{Kind as Sort}
use Rattle.sheet.specs.declared.rendition.Colour.{Colour}
use Rattle.sheet.specs.declared.rendition.Colour.TheVariants.{Default, Palette, Direct}
use Rattle.sheet.specs.declared.rendition.Rendition.{Rendition}
use Rattle.sheet.specs.Cells.{Cell, blank, covered_kind, is_covered, is_wide, wide_kind}
use Rattle.sheet.specs.Mixed.{AreAlike}
use Rattle.sheet.specs.Numbers.{attribute_number as sheet_attributes, colour_number as sheet_colour}
use Rattle.xterm_rows.specs.Ink.{attribute_number, bit, colour_number, is_blank}
use Rattle.xterm_rows.specs.Letters.{AreJoined, AreLetters, AreParted, AreUnlike, IsLetter}
use Rattle.xterm_rows.specs.Outlines.{is_braille, is_outlined, outline, outline_in}
use Rattle.xterm_rows.specs.OutlineTable.{block}
use Rattle.xterm_rows.specs.RowText.{is_space}
use Rattle.xterm_rows.specs.Runs.{begins, cell_behind, goes_on, is_marked, kind_number, kind_of, owner}
use Rattle.xterm_rows.specs.declared.runs.Kind.{Kind}
use Rattle.xterm_rows.proofs.BitLemmas.{SameBits, bit_low, both, same_bits}

blank_itself : is_blank (blank Default) ≡ true
unfolding is_space is_covered blank attribute_number colour_number
blank_itself = refl

pub blank_is : (cell : Cell) → cell ≡ blank Default → is_blank cell ≡ true
blank_is cell is = ap is_blank is ∙ blank_itself

-- ---- letters

-- no character of ASCII is drawn
low_block : (n : ℕ) → n < 8 → block n ≡ []
unfolding block
low_block n low = grind (arith, nat_tests)

pub not_drawn : (c : ℕ) → c < 128 → is_outlined c ≡ false
unfolding is_outlined outline
not_drawn c low =
    let below : c / 16 < 8 = omega (arith, low) in
    ap (λ rows. is_braille c || nat_lt 0 (length (outline_in rows c))) (low_block (c / 16) below) ∙ grind (arith, nat_tests)

pub letters_join : (r : Rendition) (one other : Cell) → IsLetter r one → IsLetter r other → AreJoined one other
unfolding is_covered
letters_join r one other is is' = record {
  uncovered = ap covered_kind is.kind;
  kind = is.kind ∙ sym is'.kind;
  rendition = is.rendition_is ∙ sym is'.rendition_is;
  alone = ap length is.alone;
  alone_too = ap length is'.alone;
  drawn = not_drawn one.character is.low ∙ sym (not_drawn other.character is'.low);
}

-- ---- neighbours

equal_number : (n : ℕ) → nat_eq n n ≡ true
equal_number n = grind (arith, nat_tests)

-- a kind without marks goes on
goes_on_itself : (kind : Kind) → kind.marked ≡ false → goes_on kind kind ≡ true
goes_on_itself kind alone =
    ap₂ (λ s t. s && t)
    (ap₂ (λ s t. s && t)
    (ap₂ (λ s t. s && t) (equal_number (kind_number kind)) (equal_number (colour_number kind.rendition.ink)))
    (equal_number (colour_number kind.rendition.paper)))
    (ap not alone)

unmarked : (cell : Cell) → length cell.marks ≡ 0 → is_marked cell ≡ false
unmarked cell alone = ap (nat_lt 0) alone

same_kind : (one other : Cell) → AreJoined one other → kind_of one ≡ kind_of other
unfolding kind_of is_wide
same_kind one other are =
    let drawn = ap₂ (λ d m. d && not m) are.drawn (unmarked one are.alone ∙ sym (unmarked other are.alone_too)) in
    let wide = ap (λ (k : Sort). wide_kind k) are.kind in
    let marked = unmarked one are.alone ∙ sym (unmarked other are.alone_too) in
    let rendition = are.rendition in
    cc

is_some : (n : ℕ) → n ≢ 0 → (n == 0) ≡ false
is_some n some = grind (arith, nat_tests)

owns_itself : (cells : List Cell) (at : ℕ) → is_covered (cell_behind cells at) ≡ false → owner cells at ≡ cell_behind cells at
unfolding owner
owns_itself cells at uncovered = ap (λ b. if b then cell_behind cells (at - 1) else cell_behind cells at) uncovered

still_uncovered : (one other : Cell) → AreJoined one other → is_covered other ≡ false
unfolding is_covered
still_uncovered one other are = ap covered_kind (sym are.kind) ∙ are.uncovered

is_alone : (cell : Cell) → length cell.marks ≡ 0 → (kind_of cell).marked ≡ false
unfolding kind_of
is_alone cell alone = unmarked cell alone

letter_uncovered : (cell : Cell) → IsLetter cell.rendition cell → is_covered cell ≡ false
unfolding is_covered
letter_uncovered cell letter = ap covered_kind letter.kind

-- at one that is joined to the one before it no run begins
pub joined_go_on : (cells : List Cell) (at : ℕ) → at ≢ 0 → AreJoined (cell_behind cells (at - 1)) (cell_behind cells at)
    → begins cells at ≡ false
unfolding begins
joined_go_on cells at some are =
    let before = cell_behind cells (at - 1) in
    let cell = cell_behind cells at in
    let kind = kind_of (owner cells (at - 1)) in
    let uncovered : is_covered cell ≡ false = still_uncovered before cell are in
    ap (λ b. b || (not (is_covered cell) && not (goes_on kind (kind_of cell)))) (is_some at some)
    ∙ ap (λ b. not b && not (goes_on kind (kind_of cell))) uncovered
    ∙ ap (λ (k : Kind). not (goes_on k (kind_of cell))) (ap kind_of (owns_itself cells (at - 1) are.uncovered) ∙ same_kind before cell are)
    ∙ ap not (goes_on_itself (kind_of cell) (is_alone cell are.alone_too))

-- ---- letters of two renditions

abbrev letters_of : Rendition → Kind
letters_of r = record { rendition = r; drawn = false; wide = false; marked = false }

kind_is : (r : Rendition) (cell : Cell) → IsLetter r cell → kind_of cell ≡ letters_of r
unfolding kind_of is_wide
kind_is r cell letter =
    let drawn = ap (λ d. d && not (is_marked cell)) (not_drawn cell.character letter.low) in
    let wide = ap (λ (k : Sort). wide_kind k) letter.kind in
    let marked = unmarked cell (ap length letter.alone) in
    let rendition = letter.rendition_is in
    cc

-- a blank cell is a letter, and one in its rendition has no numbers
pub blank_letter : IsLetter (blank Default).rendition (blank Default)
unfolding blank
blank_letter = record { kind = refl; rendition_is = refl; alone = refl; low = omega arith }

pub plain_kind : (cell : Cell) → IsLetter (blank Default).rendition cell → 0 ≡ kind_number (kind_of cell)
unfolding kind_number attribute_number blank
plain_kind cell letter = ap kind_number (sym (kind_is (blank Default).rendition cell letter))

pub plain_ink : (cell : Cell) → IsLetter (blank Default).rendition cell → 0 ≡ colour_number cell.rendition.ink
unfolding colour_number blank
plain_ink cell letter = ap (λ (r : Rendition). colour_number r.ink) (sym letter.rendition_is)

pub plain_paper : (cell : Cell) → IsLetter (blank Default).rendition cell → 0 ≡ colour_number cell.rendition.paper
unfolding colour_number blank
plain_paper cell letter = ap (λ (r : Rendition). colour_number r.paper) (sym letter.rendition_is)

-- ---- neighbours of which one is drawn

-- a kind without marks
abbrev bare : Rendition → Bool → Bool → Kind
bare r drawn wide = record { rendition = r; drawn = drawn; wide = wide; marked = false }

and_true : (b : Bool) → (b && true) ≡ b
and_true true = refl
and_true false = refl

bare_is : (cell : Cell) → length cell.marks ≡ 0 → kind_of cell ≡ bare cell.rendition (is_outlined cell.character) (is_wide cell)
unfolding kind_of
bare_is cell alone =
    let marked = unmarked cell alone in
    let drawn : (is_outlined cell.character && not (is_marked cell)) ≡ is_outlined cell.character =
    ap (λ m. is_outlined cell.character && not m) marked ∙ and_true (is_outlined cell.character) in
    cc

other_number : (n m : ℕ) → n ≢ m → (n == m) ≡ false
other_number n m apart = grind (arith, nat_tests)

-- 16 stands in the number of one that is drawn alone
sixteen : (x y z w : ℕ) → x ≤ 15 → z ≤ 15 → x + 16 + 32 * y ≢ z + 32 * w
sixteen x y z w low low' same = omega (arith, low, low', same)

low_bits : Rendition → ℕ
low_bits r = bit r.bold + 2 * bit r.underscore + 4 * bit r.blink + 8 * bit r.reverse

high_bits : Rendition → Bool → ℕ
high_bits r wide = bit r.faint + 2 * bit r.italic + 4 * bit r.concealed + 8 * bit r.crossed_out + 16 * bit wide

low_few : (r : Rendition) → low_bits r ≤ 15
unfolding low_bits
low_few r = omega (arith, bit_low r.bold, bit_low r.underscore, bit_low r.blink, bit_low r.reverse)

bare_number : (r : Rendition) (drawn wide : Bool) → kind_number (bare r drawn wide) ≡ low_bits r + 16 * bit drawn + 32 * high_bits r wide
unfolding kind_number attribute_number low_bits high_bits
bare_number r drawn wide = omega arith

drawn_apart : (r s : Rendition) (d e v w : Bool) → d ≢ e → kind_number (bare r d v) ≢ kind_number (bare s e w)
drawn_apart r s true true v w apart same = absurd (apart refl)
drawn_apart r s true false v w apart same =
    sixteen (low_bits r) (high_bits r v) (low_bits s) (high_bits s w) (low_few r) (low_few s)
    (omega (arith, same, bare_number r true v, bare_number s false w))
drawn_apart r s false true v w apart same =
    sixteen (low_bits s) (high_bits s w) (low_bits r) (high_bits r v) (low_few s) (low_few r)
    (omega (arith, same, bare_number r false v, bare_number s true w))
drawn_apart r s false false v w apart same = absurd (apart refl)

-- at one that is drawn behind one that isn't, or the other way round, a run begins
pub unlike_begin : (cells : List Cell) (at : ℕ) → at ≢ 0 → AreUnlike (cell_behind cells (at - 1)) (cell_behind cells at)
    → begins cells at ≡ true
unfolding begins
unlike_begin cells at some are =
    let before = cell_behind cells (at - 1) in
    let cell = cell_behind cells at in
    let kind = kind_of (owner cells (at - 1)) in
    let is : kind ≡ bare before.rendition (is_outlined before.character) (is_wide before) =
    ap kind_of (owns_itself cells (at - 1) are.uncovered) ∙ bare_is before are.alone in
    let one = bare before.rendition (is_outlined before.character) (is_wide before) in
    let other = bare cell.rendition (is_outlined cell.character) (is_wide cell) in
    let apart = other_number (kind_number one) (kind_number other)
    (drawn_apart before.rendition cell.rendition (is_outlined before.character) (is_outlined cell.character) (is_wide before) (is_wide cell) are.drawn) in
    let stops : goes_on one other ≡ false =
    ap (λ b. ((b && (colour_number one.rendition.ink == colour_number other.rendition.ink))
    && (colour_number one.rendition.paper == colour_number other.rendition.paper)) && not one.marked) apart in
    ap (λ b. b || (not (is_covered cell) && not (goes_on kind (kind_of cell)))) (is_some at some)
    ∙ ap (λ b. not b && not (goes_on kind (kind_of cell))) are.uncovered_too
    ∙ ap₂ (λ (p q : Kind). not (goes_on p q)) is (bare_is cell are.alone_too)
    ∙ ap not stops

-- the numbers of the sheet follow from those of a run
colour_as : (c : Colour) → sheet_colour c ≡ colour_number c
unfolding sheet_colour colour_number
colour_as Default = refl
colour_as (Palette n) = refl
colour_as (Direct r g b) = omega arith

attributes_as : (one other : Rendition) → SameBits one other → sheet_attributes one ≡ sheet_attributes other
unfolding sheet_attributes
attributes_as one other same =
    omega (arith, ap bit same.bold, ap bit same.underscore, ap bit same.blink, ap bit same.reverse, ap bit same.faint, ap bit same.italic, ap bit same.concealed, ap bit same.crossed_out)

attributes_equal : (one other : Rendition) → kind_number (letters_of one) ≡ kind_number (letters_of other)
    → attribute_number one ≡ attribute_number other
unfolding kind_number
attributes_equal one other same = omega (arith, same)

letters_alike : (one other : Rendition) → goes_on (letters_of one) (letters_of other) ≡ true → AreAlike one other
letters_alike one other goes =
    let kinds = kind_number (letters_of one) == kind_number (letters_of other) in
    let inks = colour_number one.ink == colour_number other.ink in
    let papers = colour_number one.paper == colour_number other.paper in
    let first = both ((kinds && inks) && papers) true goes in
    let second = both (kinds && inks) papers first.0 in
    let third = both kinds inks second.0 in
    record {
      attributes = attributes_as one other (same_bits one other (attributes_equal one other (eqb-true _ _ third.0)));
      ink = colour_as one.ink ∙ eqb-true _ _ third.1 ∙ sym (colour_as other.ink);
      paper = colour_as one.paper ∙ eqb-true _ _ second.1 ∙ sym (colour_as other.paper);
    }

-- at one of another rendition a run begins
pub parted_begin : (cells : List Cell) (at : ℕ) → at ≢ 0 → AreParted (cell_behind cells (at - 1)) (cell_behind cells at)
    → begins cells at ≡ true
unfolding begins
parted_begin cells at some are =
    let before = cell_behind cells (at - 1) in
    let cell = cell_behind cells at in
    let kind = kind_of (owner cells (at - 1)) in
    let is : kind ≡ letters_of before.rendition =
    ap kind_of (owns_itself cells (at - 1) (letter_uncovered before are.first)) ∙ kind_is before.rendition before are.first in
    let stops : goes_on (letters_of before.rendition) (letters_of cell.rendition) ≡ false = elim (cases_Bool (goes_on (letters_of before.rendition) (letters_of cell.rendition))) [
      | inl t ↦ absurd (are.apart (letters_alike before.rendition cell.rendition t))
      | inr f ↦ f
    ] in
    ap (λ b. b || (not (is_covered cell) && not (goes_on kind (kind_of cell)))) (is_some at some)
    ∙ ap (λ b. not b && not (goes_on kind (kind_of cell))) (letter_uncovered cell are.next)
    ∙ ap₂ (λ (p q : Kind). not (goes_on p q)) is (kind_is cell.rendition cell are.next)
    ∙ ap not stops

-- ---- letters in a row

-- what is read at a place
pub letter_read : (cells : List Cell) (at : ℕ) (cell : Cell) (r : Rendition) → at < length cells → cell ≡ get_or cells at cell
    → IsLetter r cell → IsLetter r (cell_behind cells at)
letter_read cells at cell r within is letter =
    subst (IsLetter r) (is ∙ get_or_default cells at cell (blank Default) within) letter

-- one letter more
pub letters_more : (r : Rendition) (cells : List Cell) (from end : ℕ) → AreLetters r cells from end → IsLetter r (cell_behind cells end)
    → AreLetters r cells from (end + 1)
letters_more r cells from end are is k low high = elim (cases_eq k end) [
  | inl e ↦ subst (λ n. IsLetter r (cell_behind cells n)) (sym e) is
  | inr other ↦ are k low (omega arith)
]

-- among them no run begins
pub none_begin : (r : Rendition) (cells : List Cell) (from end : ℕ) → AreLetters r cells from end
    → (k : ℕ) → from < k → k < end → begins cells k ≡ false
none_begin r cells from end are k low high =
    joined_go_on cells k (omega (arith, low))
    (letters_join r (cell_behind cells (k - 1)) (cell_behind cells k) (are (k - 1) (omega (arith, low)) (omega (arith, low, high))) (are k (omega (arith, low)) high))
