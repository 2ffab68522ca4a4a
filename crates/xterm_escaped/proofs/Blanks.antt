-- What a line leaves out: blank cells behind the last inked one.
use Rattle.std.proofs.Common.{◌≡◌, ℕ, zero, suc, ◌-◌, ◌<◌, ◌≤◌, Bool, true, false, List, [], ◌∷◌, length, take, get_or, refl, sym, ap, subst, inl, inr, ◌∙◌, arith}
use Rattle.std.specs.Prelude.{◌==◌, not}
use Rattle.std.specs.List.{suffix_len}
use Rattle.std.proofs.lemmas.Bool.{and_parts, cases_Bool, cases_eq, eqb-true}
use Rattle.std.proofs.lemmas.Bool.Decides.{nat_tests}
use Rattle.std.proofs.lemmas.List.{take_all, length-take-le}
use Rattle.std.proofs.lemmas.List.Sums.{suffix_len-take_yes, suffix_len-take_no}
use Rattle.characters.specs.Law.{AsciiIsNarrow}
use Rattle.characters.specs.Width.{width}
use Rattle.sheet.specs.declared.cell.Kind.{Kind}
use Rattle.sheet.specs.declared.cell.Kind.TheVariants.{Narrow, Wide, Covered}
use Rattle.sheet.specs.declared.rendition.Colour.TheVariants.{Default}
use Rattle.sheet.specs.declared.rendition.Rendition.{Rendition}
use Rattle.sheet.specs.Cells.{Cell, blank, cell_at, covered_kind, is_covered, is_wide, plain_on, wide_kind}
use Rattle.xterm_screen.specs.Puts.{width as columns_of}
use Rattle.xterm_rows.specs.Ink.{attribute_number, colour_number, inked, is_blank, is_plain}
use Rattle.xterm_rows.specs.RowText.{is_space}
use Rattle.xterm_escaped.proofs.Cells.{IsByteRendition}
use Rattle.xterm_escaped.proofs.Fitting.{Fits, IsCell}
use Rattle.xterm_escaped.proofs.Same.{same_decides}
use Rattle.xterm_escaped.proofs.Tables.{nth_is}

-- what stands in the longest tail that passes
module _ {X : Type 0} (p : X → Bool) (xs : List X) (d : X) where
  passes_to : (n : ℕ) → n ≤ length xs → (k : ℕ) → n - suffix_len p (take n xs) ≤ k → k < n → p (get_or xs k d) ≡ true
  passes_to zero within k from below = absurd (omega arith)
  passes_to (suc n) within k from below =
      let at_last : n ≡ suc n - 1 = omega arith in
      elim (cases_Bool (p (get_or xs n d))) [
        | inl passes ↦
            (let one = suffix_len-take_yes p xs (suc n) d (omega arith) within (ap (λ i. p (get_or xs i d)) (sym at_last) ∙ passes) in
            let rest : suffix_len p (take (suc n - 1) xs) ≡ suffix_len p (take n xs) = ap (λ i. suffix_len p (take i xs)) (sym at_last) in
            elim (cases_eq k n) [
              | inl e ↦ ap (λ i. p (get_or xs i d)) e ∙ passes
              | inr ne ↦ passes_to n (omega arith) k (omega arith) (omega arith)
            ])
        | inr fails ↦
            (let none = suffix_len-take_no p xs (suc n) d (omega arith) within (ap (λ i. p (get_or xs i d)) (sym at_last) ∙ fails) in
            absurd (omega arith))
      ]

  tail_passes : (k : ℕ) → length xs - suffix_len p xs ≤ k → k < length xs → p (get_or xs k d) ≡ true
  tail_passes k from below =
      let whole = take_all (length xs) xs (omega arith) in
      passes_to (length xs) (omega arith) k (subst (λ ys. length xs - suffix_len p ys ≤ k) (sym whole) from) below

-- ---- blank cells

not_true : (b : Bool) → not b ≡ true → b ≡ false
not_true false e = refl
not_true true e = absurd cc

no_marks : (marks : List ℕ) → (length marks == 0) ≡ true → marks ≡ []
no_marks [] e = refl
no_marks (m ∷ marks) e = absurd (grind (arith, nat_tests))

one_wide : (b : Bool) → 1 ≡ columns_of b → b ≡ false
one_wide false e = refl
one_wide true e = absurd (omega (arith, e))

narrow_kind : (kind : Kind) → wide_kind kind ≡ false → covered_kind kind ≡ false → kind ≡ Narrow
narrow_kind Narrow wide covered = refl
narrow_kind Wide wide covered = absurd cc
narrow_kind Covered wide covered = absurd cc

plain_is : (r : Rendition) → IsByteRendition r → is_plain r ≡ true → r ≡ plain_on Default
unfolding attribute_number colour_number
plain_is r is plain = same_decides r (plain_on Default) is.ink is.paper tt tt plain

cell_is : (cell : Cell) → cell.kind ≡ Narrow → cell.character ≡ 32 → cell.marks ≡ [] → cell.rendition ≡ plain_on Default → cell ≡ blank Default
unfolding blank
cell_is cell kind character marks rendition =
    ap (λ k. let c : Cell = record cell { kind = k } in c) kind
    ∙ ap (λ n. let c : Cell = record cell { kind = Narrow; character = n } in c) character
    ∙ ap (λ m. let c : Cell = record { kind = Narrow; character = 32; marks = m; rendition = cell.rendition } in c) marks
    ∙ ap (λ r. let c : Cell = record { kind = Narrow; character = 32; marks = []; rendition = r } in c) rendition

pub blank_is : AsciiIsNarrow → (cell : Cell) → IsCell cell → is_blank cell ≡ true → cell ≡ blank Default
unfolding is_space is_covered is_wide
blank_is ascii cell is test =
    let parts = and_parts (is_space cell) (is_plain cell.rendition) test in
    let inner = and_parts _ _ parts.0 in
    let space = and_parts _ _ inner.0 in
    let open_ = not_true (is_covered cell) space.0 in
    let character = eqb-true cell.character 32 space.1 in
    let one = ascii 32 refl in
    let letter = is.letter open_ in
    let narrow = one_wide (is_wide cell) (sym one ∙ ap width (sym character) ∙ letter.columns) in
    cell_is cell (narrow_kind cell.kind narrow open_) character (no_marks cell.marks inner.1) (plain_is cell.rendition is.colours parts.1)

-- ---- rows

-- how many cells of a row are written
abbrev pub ink : List Cell → ℕ
ink row = length row - suffix_len is_blank row

pub inked_is : (row : List Cell) → inked row ≡ take (ink row) row
unfolding inked
inked_is row = refl

pub ink_long : (row : List Cell) → length (inked row) ≡ ink row
ink_long row = ap length (inked_is row) ∙ length-take-le (ink row) row (omega arith)

-- the cells behind them are blank
pub blank_behind : AsciiIsNarrow → (row : List Cell) → Fits row → (k : ℕ) → ink row < k → k ≤ length row → cell_at row k ≡ blank Default
blank_behind ascii row fits k past within =
    let low : 1 ≤ k = omega arith in
    let same = nth_is (blank Default) row k low in
    let test : is_blank (get_or row (k - 1) (blank Default)) ≡ true = tail_passes is_blank row (blank Default) (k - 1) (omega arith) (omega arith) in
    blank_is ascii (cell_at row k) (fits.loose.cells k) (ap is_blank same ∙ test)
