-- Equal rows.
use Rattle.std.proofs.Common.{◌≡◌, ℕ, zero, suc, ◌+◌, ◌*◌, ◌<◌, ◌≤◌, Bool, true, false, ◌&&◌, List, [], ◌∷◌, length, get_or, take, nat_eq, Decides, refl, ap, sym, ◌∙◌, arith, inl, inr}
use Rattle.std.specs.Cmp.Lexicographic.{pointwise}
use Rattle.std.proofs.lemmas.Bool.{and_parts, cases_Bool, cases_lt, eqb-true, eq-eqb, false≢true}
use Rattle.std.proofs.lemmas.List.{get_or-take}
use Rattle.std.proofs.lemmas.List.FromFn.{fill_by_all}
use Rattle.std.proofs.lemmas.Slice.Eq.{slice_eq-Decides}
use Rattle.vt_screen.specs.declared.cell.Cell.{Cell}
use Rattle.vt_screen.specs.declared.cell.Row.{Row}
use Rattle.vt_screen.specs.declared.cell.Size.{Size}
use Rattle.vt_screen.specs.declared.cell.Size.TheVariants.{Single, Double, Top, Bottom}
use Rattle.vt_screen.specs.Attributes.{Attributes, attributes_of, byte_of}
use Rattle.vt_screen.specs.Cells.{blank, cell_at}
use Rattle.vt_screen.specs.Picture.{SoundRow, margin_of}
use Rattle.vt_screen.specs.Table.{nth}
use Rattle.screen_rows.specs.SameRows.{same_cell, same_row, size_number}

-- a size by its number
size_with : ℕ → Size
size_with zero = Single
size_with (suc zero) = Double
size_with (suc (suc zero)) = Top
size_with (suc (suc (suc n))) = Bottom

size_again : (size : Size) → size_with (size_number size) ≡ size
unfolding size_with
size_again Single = refl
size_again Double = refl
size_again Top = refl
size_again Bottom = refl

attributes_again : (bold underscore blink reverse : Bool)
    → attributes_of (byte_of (record { bold = bold; underscore = underscore; blink = blink; reverse = reverse }))
    ≡ record { bold = bold; underscore = underscore; blink = blink; reverse = reverse }
attributes_again true true true true = refl
attributes_again true true true false = refl
attributes_again true true false true = refl
attributes_again true true false false = refl
attributes_again true false true true = refl
attributes_again true false true false = refl
attributes_again true false false true = refl
attributes_again true false false false = refl
attributes_again false true true true = refl
attributes_again false true true false = refl
attributes_again false true false true = refl
attributes_again false true false false = refl
attributes_again false false true true = refl
attributes_again false false true false = refl
attributes_again false false false true = refl
attributes_again false false false false = refl

pub byte_apart : (a b : Attributes) → byte_of a ≡ byte_of b → a ≡ b
byte_apart a b e = sym (attributes_again a.bold a.underscore a.blink a.reverse) ∙ ap attributes_of e ∙ attributes_again b.bold b.underscore b.blink b.reverse

-- numbers that are equal by the test
same_number : (m n : ℕ) → nat_eq m n ≡ true → m ≡ n
same_number m n h = eqb-true m n h

both : (s t : Bool) → s ≡ true → t ≡ true → (s && t) ≡ true
both s t h k = rw (h, k) refl

itself : (n : ℕ) → nat_eq n n ≡ true
itself n = eq-eqb n n refl

cell_from_parts : (one other : Cell) → one.glyph ≡ other.glyph → one.rendition ≡ other.rendition → one ≡ other
cell_from_parts one other e f =
    ap (λ (g : ℕ). let c : Cell = record { glyph = g; rendition = one.rendition } in c) e
    ∙ ap (λ (r : Attributes). let c : Cell = record { glyph = other.glyph; rendition = r } in c) f

pub same_cell_decides : (one other : Cell) → Decides (same_cell one other) (one ≡ other)
same_cell_decides one other = (
  λ h. let parts = and_parts (nat_eq one.glyph other.glyph) (nat_eq (byte_of one.rendition) (byte_of other.rendition)) h in
      cell_from_parts one other (same_number _ _ parts.0) (byte_apart one.rendition other.rendition (same_number _ _ parts.1)),
  λ e. rw e (both _ _ (itself other.glyph) (itself (byte_of other.rendition))),
)

-- ---- cells by number

pub same_truth : (s t : Bool) → (s ≡ true → t ≡ true) → (t ≡ true → s ≡ true) → s ≡ t
same_truth true true there back = refl
same_truth true false there back = sym (there refl)
same_truth false true there back = back refl
same_truth false false there back = refl

number_parts : (b g c h : ℕ) → g < 256 → h < 256 → 256 * b + g ≡ 256 * c + h → (g ≡ h) × (b ≡ c)
number_parts b g c h low low' e = (omega arith, omega arith)

-- cells are the same where their numbers are
pub cell_numbers : (one other : Cell) → one.glyph < 256 → other.glyph < 256
    → nat_eq (256 * byte_of one.rendition + one.glyph) (256 * byte_of other.rendition + other.glyph) ≡ same_cell one other
cell_numbers one other low low' =
    let b = byte_of one.rendition in
    let c = byte_of other.rendition in
    same_truth (nat_eq (256 * b + one.glyph) (256 * c + other.glyph)) (same_cell one other)
    (λ h. let parts = number_parts b one.glyph c other.glyph low low' (same_number _ _ h) in
    both _ _ (eq-eqb _ _ parts.0) (eq-eqb _ _ parts.1))
    (λ h. let parts = and_parts (nat_eq one.glyph other.glyph) (nat_eq b c) h in
    eq-eqb _ _ (rw (same_number _ _ parts.0, same_number _ _ parts.1) refl))

and_end : (s : Bool) → (s && true) ≡ s
and_end true = refl
and_end false = refl

and_again : (s t u : Bool) → (s && (t && u)) ≡ ((s && t) && u)
and_again true t u = refl
and_again false t u = refl

-- one pair more
pub pointwise_more : {A B : Type 0} (E : A → B → Bool) (xs : List A) (ys : List B) (i : ℕ) (d : A) (e : B) → i < length xs → i < length ys
    → pointwise E (take (i + 1) xs) (take (i + 1) ys) ≡ (pointwise E (take i xs) (take i ys) && E (get_or xs i d) (get_or ys i e))
pointwise_more E [] ys i d e lt lt' = absurd (omega arith)
pointwise_more E (x ∷ xs) [] i d e lt lt' = absurd (omega arith)
pointwise_more E (x ∷ xs) (y ∷ ys) zero d e lt lt' = and_end (E x y)
pointwise_more E (x ∷ xs) (y ∷ ys) (suc i) d e lt lt' =
    let next : suc i + 1 ≡ suc (i + 1) = omega arith in
    ap (λ n. pointwise E (take n (x ∷ xs)) (take n (y ∷ ys))) next
    ∙ ap (λ b. E x y && b) (pointwise_more E xs ys i d e (omega arith) (omega arith))
    ∙ and_again (E x y) (pointwise E (take i xs) (take i ys)) (E (get_or xs i d) (get_or ys i e))

row_from_parts : (one other : Row) → one.size ≡ other.size → one.cells ≡ other.cells → one ≡ other
row_from_parts one other e f =
    ap (λ (z : Size). let r : Row = record { size = z; cells = one.cells } in r) e
    ∙ ap (λ (l : List Cell). let r : Row = record { size = other.size; cells = l } in r) f

-- two rows are the same where they are equal
pub same_row_decides : (one other : Row) → Decides (same_row one other) (one ≡ other)
same_row_decides one other =
    let sizes = nat_eq (size_number one.size) (size_number other.size) in
    let cells = pointwise same_cell one.cells other.cells in
    let cells_decide = slice_eq-Decides same_cell_decides one.cells other.cells cells refl in (
      λ h. let parts = and_parts sizes cells h in
          row_from_parts one other
          (sym (size_again one.size) ∙ ap size_with (same_number _ _ parts.0) ∙ size_again other.size)
          (cells_decide.0 parts.1),
      λ e. both sizes cells (rw e (itself (size_number other.size))) (cells_decide.1 (ap (λ (r : Row). r.cells) e)),
    )

-- ---- narrow rows

-- right of column 80 the cells of a narrow row are blank
margin_low : (size : Size) → margin_of false size ≤ 80
margin_low Single = omega arith
margin_low Double = omega arith
margin_low Top = omega arith
margin_low Bottom = omega arith

cell_is : (row : Row) (k : ℕ) → cell_at row (k + 1) ≡ get_or row.cells k blank
unfolding nth
cell_is row k = ap (λ i. get_or row.cells i blank) (omega arith)

blank_behind : (row : Row) (k : ℕ) → SoundRow false row → 80 ≤ k → get_or row.cells k blank ≡ blank
blank_behind row k sound high = sym (cell_is row k) ∙ sound.blank_right (k + 1) (omega (arith, margin_low row.size))

-- cells of which the first 80 are the same
same_front : (one other : Row) (k : ℕ) → SoundRow false one → SoundRow false other
    → take 80 one.cells ≡ take 80 other.cells → get_or one.cells k blank ≡ get_or other.cells k blank
same_front one other k sound sound' same = elim (cases_lt k 80) [
  | inl lt ↦ sym (get_or-take 80 one.cells k blank lt) ∙ ap (λ (l : List Cell). get_or l k blank) same ∙ get_or-take 80 other.cells k blank lt
  | inr ge ↦ blank_behind one k sound ge ∙ sym (blank_behind other k sound' ge)
]

same_whole : (one other : Row) → SoundRow false one → SoundRow false other → take 80 one.cells ≡ take 80 other.cells → one.cells ≡ other.cells
same_whole one other sound sound' same =
    fill_by_all (λ k. get_or other.cells k blank) one.cells 132 blank sound.cells (λ k lt. same_front one other k sound sound' same)
    ∙ sym (fill_by_all (λ k. get_or other.cells k blank) other.cells 132 blank sound'.cells (λ k lt. refl))

-- so the first 80 cells tell whether all are the same
pub narrow_same : (one other : Row) → SoundRow false one → SoundRow false other
    → pointwise same_cell (take 80 one.cells) (take 80 other.cells) ≡ pointwise same_cell one.cells other.cells
narrow_same one other sound sound' =
    let front = slice_eq-Decides same_cell_decides (take 80 one.cells) (take 80 other.cells) (pointwise same_cell (take 80 one.cells) (take 80 other.cells)) refl in
    let whole = slice_eq-Decides same_cell_decides one.cells other.cells (pointwise same_cell one.cells other.cells) refl in
    same_truth (pointwise same_cell (take 80 one.cells) (take 80 other.cells)) (pointwise same_cell one.cells other.cells)
    (λ h. whole.1 (same_whole one other sound sound' (front.0 h)))
    (λ h. front.1 (ap (take 80) (whole.0 h)))

-- ---- rows that begin differently

-- lists that are the same begin so
fronts_same : {A B : Type 0} (E : A → B → Bool) (n : ℕ) (xs : List A) (ys : List B) → pointwise E xs ys ≡ true
    → pointwise E (take n xs) (take n ys) ≡ true
fronts_same E zero xs ys same = refl
fronts_same E (suc n) [] [] same = refl
fronts_same E (suc n) [] (y ∷ ys) same = same
fronts_same E (suc n) (x ∷ xs) [] same = same
fronts_same E (suc n) (x ∷ xs) (y ∷ ys) same =
    let parts = and_parts (E x y) (pointwise E xs ys) same in
    rw parts.0 (fronts_same E n xs ys parts.1)

-- so rows that begin differently aren't the same
pub fronts_apart : (n : ℕ) (one other : Row) (front : Bool) → front ≡ pointwise same_cell (take n one.cells) (take n other.cells)
    → front ≡ false → front ≡ same_row one other
fronts_apart n one other front is apart = elim (cases_Bool (same_row one other)) [
  | inl t ↦
      let cells = (and_parts (nat_eq (size_number one.size) (size_number other.size)) (pointwise same_cell one.cells other.cells) t).1 in
      absurd (false≢true (sym apart ∙ is ∙ fronts_same same_cell n one.cells other.cells cells))
  | inr f ↦ apart ∙ sym f
]
