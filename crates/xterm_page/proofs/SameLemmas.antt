-- When cells and rows are the same.
use Rattle.std.proofs.Common.{◌≡◌, ℕ, zero, suc, ◌+◌, ◌<◌, Bool, true, false, List, length, refl, ap, ap₂, ◌∙◌, arith}
use Rattle.std.specs.Prelude.{◌&&◌, nat_eq, slice_index_or}
use Rattle.std.specs.List.{list_all, range_with_len}
use Rattle.std.proofs.lemmas.Bool.Decides.{nat_tests}
use Rattle.std.proofs.lemmas.List.Folds.{list_all_at}
use Rattle.std.proofs.lemmas.List.FromFn.{get_or-range_with_len, length-range_with_len}
use Rattle.sheet.specs.declared.rendition.Colour.{Colour}
use Rattle.sheet.specs.declared.rendition.Colour.TheVariants.{Default, Palette, Direct}
use Rattle.sheet.specs.declared.rendition.Rendition.{Rendition}
use Rattle.sheet.specs.declared.cell.Kind.{Kind}
use Rattle.sheet.specs.declared.cell.Kind.TheVariants.{Narrow, Wide, Covered}
use Rattle.sheet.specs.Cells.{Cell}
use Rattle.xterm_rows.specs.Ink.{attribute_number}
use Rattle.xterm_rows.specs.Runs.{cell_behind}
use Rattle.xterm_page.specs.Same.{same_at, same_cell, same_colour, same_kind, same_mark, same_marks, same_rendition, same_row}

-- where one number fails, not all pass
pub one_fails : (p : ℕ → Bool) (n k : ℕ) → k < n → p k ≡ false → list_all p (range_with_len 0 n) ≡ false
one_fails p n k below fails =
    let there : 0 + k ≡ k = omega arith in
    list_all_at p (range_with_len 0 n) k 0 (omega (arith, length-range_with_len 0 n)) (ap p (get_or-range_with_len 0 n k 0 below ∙ there) ∙ fails)

-- ---- each cell and row is the same as itself

all_pass : (p : ℕ → Bool) (from n : ℕ) → ((k : ℕ) → p k ≡ true) → list_all p (range_with_len from n) ≡ true
all_pass p from zero pass = refl
all_pass p from (suc n) pass = ap₂ (λ a b. a && b) (pass from) (all_pass p (from + 1) n pass)

equal_number : (n : ℕ) → nat_eq n n ≡ true
equal_number n = grind (arith, nat_tests)

colour_itself : (colour : Colour) → same_colour colour colour ≡ true
colour_itself Default = refl
colour_itself (Palette n) = equal_number n
colour_itself (Direct r g b) = ap₂ (λ s t. s && t) (equal_number r) (ap₂ (λ s t. s && t) (equal_number g) (equal_number b))

kind_itself : (kind : Kind) → same_kind kind kind ≡ true
kind_itself Narrow = refl
kind_itself Wide = refl
kind_itself Covered = refl

rendition_itself : (r : Rendition) → same_rendition r r ≡ true
unfolding same_rendition
rendition_itself r =
    ap₂ (λ s t. s && t) (equal_number (attribute_number r)) (ap₂ (λ s t. s && t) (colour_itself r.ink) (colour_itself r.paper))

marks_itself : (marks : List ℕ) → same_marks marks marks ≡ true
unfolding same_marks
marks_itself marks =
    ap₂ (λ s t. s && t) (equal_number (length marks)) (all_pass (same_mark marks marks) 0 (length marks) (λ k. equal_number (slice_index_or marks k 0)))

cell_itself : (cell : Cell) → same_cell cell cell ≡ true
unfolding same_cell
cell_itself cell =
    ap₂ (λ s t. s && t) (equal_number cell.character)
    (ap₂ (λ s t. s && t) (rendition_itself cell.rendition) (ap₂ (λ s t. s && t) (kind_itself cell.kind) (marks_itself cell.marks)))

pub row_itself : (row : List Cell) → same_row row row ≡ true
unfolding same_row
row_itself row =
    ap₂ (λ s t. s && t) (equal_number (length row)) (all_pass (same_at row row) 0 (length row) (λ k. cell_itself (cell_behind row k)))
