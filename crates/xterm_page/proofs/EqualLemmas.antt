-- Cells and rows that are the same are equal.
use Rattle.std.proofs.Common.{◌≡◌, ◌≢◌, ℕ, ◌<◌, Bool, true, false, List, get_or, length, refl, ap, sym, ◌∙◌, inl, inr}
use Rattle.std.specs.Prelude.{◌&&◌, ◌==◌}
use Rattle.std.specs.List.{list_all, range_with_len}
use Rattle.std.proofs.lemmas.Bool.{cases_Bool, eqb-true, false≢true}
use Rattle.std.proofs.lemmas.List.FromFn.{fill_by_all}
use Rattle.sheet.specs.declared.rendition.Colour.{Colour}
use Rattle.sheet.specs.declared.rendition.Colour.TheVariants.{Default, Palette, Direct}
use Rattle.sheet.specs.declared.rendition.Rendition.{Rendition}
use Rattle.sheet.specs.declared.cell.Kind.{Kind}
use Rattle.sheet.specs.declared.cell.Kind.TheVariants.{Narrow, Wide, Covered}
use Rattle.sheet.specs.Cells.{Cell, blank}
use Rattle.xterm_rows.specs.Ink.{attribute_number}
use Rattle.xterm_rows.proofs.BitLemmas.{SameBits, both, same_bits}
use Rattle.xterm_print.specs.ChangeLines.{same_row as same_numbers}
use Rattle.xterm_print.proofs.SameLemmas.{equal_same}
use Rattle.xterm_page.specs.Same.{row_number, same_at, same_cell, same_colour, same_kind, same_mark, same_marks, same_rendition, same_row}
use Rattle.xterm_page.proofs.SameLemmas.{one_fails, row_itself}

-- ---- truth values and lists

-- where all numbers pass, each does
each_passes : (p : ℕ → Bool) (n k : ℕ) → list_all p (range_with_len 0 n) ≡ true → k < n → p k ≡ true
each_passes p n k all below = elim (cases_Bool (p k)) [
  | inl t ↦ t
  | inr f ↦ absurd (false≢true (sym (one_fails p n k below f) ∙ all))
]

pub lists_equal : {X : Type 0} (d : X) (xs ys : List X) → length xs ≡ length ys
    → ((k : ℕ) → k < length xs → get_or xs k d ≡ get_or ys k d) → xs ≡ ys
lists_equal d xs ys long same =
    fill_by_all (λ k. get_or ys k d) xs (length xs) d refl same
    ∙ sym (fill_by_all (λ k. get_or ys k d) ys (length xs) d (sym long) (λ k below. refl))

-- ---- renditions

colours_equal : (one other : Colour) → same_colour one other ≡ true → one ≡ other
colours_equal Default Default h = refl
colours_equal Default (Palette m) h = absurd (false≢true h)
colours_equal Default (Direct s i c) h = absurd (false≢true h)
colours_equal (Palette n) Default h = absurd (false≢true h)
colours_equal (Palette n) (Palette m) h = ap Palette (eqb-true n m h)
colours_equal (Palette n) (Direct s i c) h = absurd (false≢true h)
colours_equal (Direct r g b) Default h = absurd (false≢true h)
colours_equal (Direct r g b) (Palette m) h = absurd (false≢true h)
colours_equal (Direct r g b) (Direct s i c) h =
    let first = both (r == s) ((g == i) && (b == c)) h in
    let rest = both (g == i) (b == c) first.1 in
    ap (λ x. Direct x g b) (eqb-true r s first.0) ∙ ap (λ x. Direct s x b) (eqb-true g i rest.0) ∙ ap (λ x. Direct s i x) (eqb-true b c rest.1)

unfoldable made : Bool → Bool → Bool → Bool → Bool → Bool → Bool → Bool → Colour → Colour → Rendition
made bold faint italic underscore blink reverse concealed crossed_out ink paper = record {
  bold = bold;
  faint = faint;
  italic = italic;
  underscore = underscore;
  blink = blink;
  reverse = reverse;
  concealed = concealed;
  crossed_out = crossed_out;
  ink = ink;
  paper = paper;
}

abbrev made_of : Rendition → Rendition
made_of r = made r.bold r.faint r.italic r.underscore r.blink r.reverse r.concealed r.crossed_out r.ink r.paper

made_again : (r : Rendition) → made_of r ≡ r
unfolding made
made_again r = refl

made_alike : (one other : Rendition) → SameBits one other → one.ink ≡ other.ink → one.paper ≡ other.paper → made_of one ≡ made_of other
made_alike one other bits ink paper = cc

renditions_equal : (one other : Rendition) → same_rendition one other ≡ true → one ≡ other
unfolding same_rendition
renditions_equal one other h =
    let first = both (attribute_number one == attribute_number other) (same_colour one.ink other.ink && same_colour one.paper other.paper) h in
    let rest = both (same_colour one.ink other.ink) (same_colour one.paper other.paper) first.1 in
    sym (made_again one)
    ∙ made_alike one other (same_bits one other (eqb-true (attribute_number one) (attribute_number other) first.0))
    (colours_equal one.ink other.ink rest.0) (colours_equal one.paper other.paper rest.1)
    ∙ made_again other

-- ---- cells

kinds_equal : (one other : Kind) → same_kind one other ≡ true → one ≡ other
kinds_equal Narrow Narrow h = refl
kinds_equal Narrow Wide h = absurd (false≢true h)
kinds_equal Narrow Covered h = absurd (false≢true h)
kinds_equal Wide Narrow h = absurd (false≢true h)
kinds_equal Wide Wide h = refl
kinds_equal Wide Covered h = absurd (false≢true h)
kinds_equal Covered Narrow h = absurd (false≢true h)
kinds_equal Covered Wide h = absurd (false≢true h)
kinds_equal Covered Covered h = refl

marks_equal : (one other : List ℕ) → same_marks one other ≡ true → one ≡ other
unfolding same_marks
marks_equal one other h =
    let parts = both (length one == length other) (list_all (same_mark one other) (range_with_len 0 (length one))) h in
    lists_equal 0 one other (eqb-true (length one) (length other) parts.0)
    (λ k below. eqb-true (get_or one k 0) (get_or other k 0) (each_passes (same_mark one other) (length one) k parts.1 below))

cell_from : (one other : Cell) → one.kind ≡ other.kind → one.character ≡ other.character → one.marks ≡ other.marks
    → one.rendition ≡ other.rendition → one ≡ other
cell_from one other kind character marks rendition =
    ap (λ (k : Kind). let c : Cell = record { kind = k; character = one.character; marks = one.marks; rendition = one.rendition } in c) kind
    ∙ ap (λ (n : ℕ). let c : Cell = record { kind = other.kind; character = n; marks = one.marks; rendition = one.rendition } in c) character
    ∙ ap (λ (m : List ℕ). let c : Cell = record { kind = other.kind; character = other.character; marks = m; rendition = one.rendition } in c) marks
    ∙ ap (λ (r : Rendition). let c : Cell = record { kind = other.kind; character = other.character; marks = other.marks; rendition = r } in c) rendition

cells_equal : (one other : Cell) → same_cell one other ≡ true → one ≡ other
unfolding same_cell
cells_equal one other h =
    let marks = same_marks one.marks other.marks in
    let kinds = same_kind one.kind other.kind in
    let styles = same_rendition one.rendition other.rendition in
    let first = both (one.character == other.character) (styles && (kinds && marks)) h in
    let second = both styles (kinds && marks) first.1 in
    let third = both kinds marks second.1 in
    cell_from one other (kinds_equal one.kind other.kind third.0) (eqb-true one.character other.character first.0)
    (marks_equal one.marks other.marks third.1) (renditions_equal one.rendition other.rendition second.0)

-- ---- rows

pub rows_equal : (one other : List Cell) → same_row one other ≡ true → one ≡ other
unfolding same_row
rows_equal one other h =
    let parts = both (length one == length other) (list_all (same_at one other) (range_with_len 0 (length one))) h in
    lists_equal (blank Default) one other (eqb-true (length one) (length other) parts.0)
    (λ k below. cells_equal (get_or one k (blank Default)) (get_or other k (blank Default)) (each_passes (same_at one other) (length one) k parts.1 below))

-- rows with other numbers aren't the same
pub other_numbers : (one other : List Cell) → row_number one ≢ row_number other → same_row one other ≡ false
other_numbers one other apart = elim (cases_Bool (same_row one other)) [
  | inl t ↦ absurd (apart (ap row_number (rows_equal one other t)))
  | inr f ↦ f
]

-- rows whose cells have the same numbers, and which are equal then, are the same
pub alike : (one other : List Cell) (is : Bool) → is ≡ same_numbers one other → (is ≡ true → one ≡ other) → is ≡ same_row one other
alike one other true told equal = sym (ap (same_row one) (sym (equal refl)) ∙ row_itself one)
alike one other false told equal = elim (cases_Bool (same_row one other)) [
  | inl t ↦ absurd (false≢true (told ∙ equal_same one other (rows_equal one other t)))
  | inr f ↦ sym f
]
