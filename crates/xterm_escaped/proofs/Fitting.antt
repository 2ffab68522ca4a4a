-- What stands in the cells of a row, which every edit of a row keeps.
use Rattle.std.proofs.Common.{◌≡◌, ◌⊎◌, ℕ, ◌+◌, ◌-◌, ◌<◌, ◌≤◌, Bool, true, false, List, [], ◌∷◌, ◌++◌, length, refl, sym, ap, inl, inr, ◌∙◌, arith, subst}
use Rattle.std.specs.Prelude.{if◌then◌else◌, ◌==◌, ◌&&◌, ◌||◌, nat_le, nat_lt}
use Rattle.std.specs.List.{AllByRecursion}
use Rattle.std.proofs.lemmas.Bool.{cases_Bool, cases_eq, cases_lt, false≢true}
use Rattle.std.proofs.lemmas.Bool.Decides.{nat_tests}
use Rattle.std.proofs.lemmas.List.{length-append}
use Rattle.characters.specs.Law.{AsciiIsNarrow}
use Rattle.characters.specs.Width.{width}
use Rattle.sheet.specs.declared.cell.Kind.{Kind}
use Rattle.sheet.specs.declared.cell.Kind.TheVariants.{Narrow, Wide, Covered}
use Rattle.sheet.specs.declared.rendition.Colour.{Colour}
use Rattle.sheet.specs.declared.rendition.Colour.TheVariants.{Default}
use Rattle.sheet.specs.declared.rendition.Rendition.{Rendition}
use Rattle.sheet.specs.Cells.{Cell, alignment, blank, cell_at, covered_kind, covering, is_covered, is_wide, lettered, wide_kind, with_mark}
use Rattle.sheet.specs.Edits.{character_column, deleted, erased, filled, inserted, mark_added, moved_right, put, taken_out, written}
use Rattle.sheet.specs.Grid.{row_of}
use Rattle.sheet.specs.Halves.{Whole, is_half, mended, parted}
use Rattle.sheet.specs.Table.{table}
use Rattle.xterm_screen.specs.Puts.{width as columns_of}
use Rattle.xterm_term.specs.Puts.{is_c1}
use Rattle.xterm_escaped.proofs.Cells.{IsByteRendition, IsTyped}
use Rattle.xterm_escaped.proofs.Colours.{IsByteColour}
use Rattle.xterm_escaped.proofs.Drawn.{blank_narrow, blank_open, cell_outside, cell_there, covering_narrow}
use Rattle.xterm_escaped.proofs.Redrawing.{IsLetter, IsMark}
use Rattle.xterm_escaped.proofs.Tables.{length-table, nth-table, nth_none, nth_past}

-- ---- cells

-- its colours can be told, what stands in it can be typed, and a right half is nothing else
pub record IsCell (cell : Cell) : Type 0 where
  pub colours : IsByteRendition cell.rendition
  pub letter : is_covered cell ≡ false → IsLetter cell
  pub covers : is_covered cell ≡ true → cell ≡ covering cell.rendition

either_cell : (b : Bool) (x y : Cell) → IsCell x → IsCell y → IsCell (if b then x else y)
either_cell true x y one two = one
either_cell false x y one two = two

pub blank_cell : AsciiIsNarrow → (paper : Colour) → IsByteColour paper → IsCell (blank paper)
unfolding blank is_covered is_wide
blank_cell ascii paper is = record {
  colours = record { ink = tt; paper = is };
  letter = λ open_. record { no_c1 = refl; columns = ascii 32 refl; typed = inl refl; few = omega arith; marks = tt };
  covers = λ covered. absurd (false≢true covered);
}

-- a character that can stand in a cell
pub record IsShown (character : ℕ) (wide : Bool) : Type 0 where
  pub no_c1 : is_c1 character ≡ false
  pub columns : width character ≡ columns_of wide
  pub typed : IsTyped character

pub lettered_open : (character : ℕ) (wide : Bool) (rendition : Rendition) → is_covered (lettered character wide rendition) ≡ false
unfolding lettered is_covered
lettered_open character true rendition = refl
lettered_open character false rendition = refl

pub lettered_wide : (character : ℕ) (wide : Bool) (rendition : Rendition) → is_wide (lettered character wide rendition) ≡ wide
unfolding lettered is_wide
lettered_wide character true rendition = refl
lettered_wide character false rendition = refl

pub lettered_rendition : (character : ℕ) (wide : Bool) (rendition : Rendition) → (lettered character wide rendition).rendition ≡ rendition
unfolding lettered
lettered_rendition character wide rendition = refl

lettered_letter : (character : ℕ) (wide : Bool) (rendition : Rendition) → IsShown character wide → IsLetter (lettered character wide rendition)
unfolding lettered is_wide
lettered_letter character true rendition is = record { no_c1 = is.no_c1; columns = is.columns; typed = is.typed; few = omega arith; marks = tt }
lettered_letter character false rendition is = record { no_c1 = is.no_c1; columns = is.columns; typed = is.typed; few = omega arith; marks = tt }

pub lettered_cell : (character : ℕ) (wide : Bool) (rendition : Rendition) → IsShown character wide → IsByteRendition rendition
    → IsCell (lettered character wide rendition)
lettered_cell character wide rendition is colours = record {
  colours = subst IsByteRendition (sym (lettered_rendition character wide rendition)) colours;
  letter = λ open_. lettered_letter character wide rendition is;
  covers = λ covered. absurd (false≢true (sym (lettered_open character wide rendition) ∙ covered));
}

covering_rendition : (rendition : Rendition) → (covering rendition).rendition ≡ rendition
unfolding covering
covering_rendition rendition = refl

covering_cell : (rendition : Rendition) → IsByteRendition rendition → IsCell (covering rendition)
unfolding covering is_covered
covering_cell rendition colours = record { colours = colours; letter = λ open_. absurd (false≢true (sym open_)); covers = λ covered. refl }

-- a mark
all_more : (marks : List ℕ) (mark : ℕ) → AllByRecursion IsMark marks → IsMark mark → AllByRecursion IsMark (marks ++ mark ∷ [])
all_more [] mark all is = (is, tt)
all_more (m ∷ marks) mark all is = (all.0, all_more marks mark all.1 is)

few_more : (b : Bool) (marks : List ℕ) (mark : ℕ) → nat_lt (length marks) 2 ≡ b → length marks ≤ 2 → length (if b then marks ++ mark ∷ [] else marks) ≤ 2
few_more true marks mark test few = let longer = length-append marks (mark ∷ []) in grind (arith, nat_tests)
few_more false marks mark test few = few

all_few : (b : Bool) (marks : List ℕ) (mark : ℕ) → AllByRecursion IsMark marks → IsMark mark → AllByRecursion IsMark (if b then marks ++ mark ∷ [] else marks)
all_few true marks mark all is = all_more marks mark all is
all_few false marks mark all is = all

pub marked_wide : (mark : ℕ) (cell : Cell) → is_wide (with_mark mark cell) ≡ is_wide cell
unfolding is_wide with_mark
marked_wide mark cell = refl

pub marked_covered : (mark : ℕ) (cell : Cell) → is_covered (with_mark mark cell) ≡ is_covered cell
unfolding is_covered with_mark
marked_covered mark cell = refl

pub marked_rendition : (mark : ℕ) (cell : Cell) → (with_mark mark cell).rendition ≡ cell.rendition
unfolding with_mark
marked_rendition mark cell = refl

marked_letter : (mark : ℕ) (cell : Cell) → IsMark mark → IsLetter cell → IsLetter (with_mark mark cell)
unfolding with_mark is_wide
marked_letter mark cell is letter = record {
  no_c1 = letter.no_c1;
  columns = letter.columns;
  typed = letter.typed;
  few = few_more (nat_lt (length cell.marks) 2) cell.marks mark refl letter.few;
  marks = all_few (nat_lt (length cell.marks) 2) cell.marks mark letter.marks is;
}

marked_cell : (mark : ℕ) (cell : Cell) → IsMark mark → is_covered cell ≡ false → IsCell cell → IsCell (with_mark mark cell)
marked_cell mark cell is open_ fits = record {
  colours = subst IsByteRendition (sym (marked_rendition mark cell)) fits.colours;
  letter = λ still. marked_letter mark cell is (fits.letter open_);
  covers = λ covered. absurd (false≢true (sym open_ ∙ sym (marked_covered mark cell) ∙ covered));
}

-- ---- neighbours

-- a right half has the rendition of the character that it covers
abbrev pub Agrees : Cell → Cell → Type 0
Agrees left right = is_wide left ≡ true → is_covered right ≡ true → right.rendition ≡ left.rendition

agrees_narrow : (left right : Cell) → is_wide left ≡ false → Agrees left right
agrees_narrow left right narrow = λ wide covered. absurd (false≢true (sym narrow ∙ wide))

agrees_open : (left right : Cell) → is_covered right ≡ false → Agrees left right
agrees_open left right open_ = λ wide covered. absurd (false≢true (sym open_ ∙ covered))

agrees_as : (a b x y : Cell) → a ≡ x → b ≡ y → Agrees x y → Agrees a b
agrees_as a b x y left right agrees = subst (λ c. Agrees c b) (sym left) (subst (λ c. Agrees x c) (sym right) agrees)

-- the same with blank cells in place of some
agrees_blanked : (b c : Bool) (paper : Colour) (x y : Cell) → Agrees x y → Agrees (if b then blank paper else x) (if c then blank paper else y)
agrees_blanked true c paper x y agrees = agrees_narrow _ _ (blank_narrow paper)
agrees_blanked false true paper x y agrees = agrees_open _ _ (blank_open paper)
agrees_blanked false false paper x y agrees = agrees

-- ---- rows

pub record Loose (row : List Cell) : Type 0 where
  pub cells : (k : ℕ) → IsCell (cell_at row k)
  pub agree : (k : ℕ) → Agrees (cell_at row k) (cell_at row (k + 1))

pub record Fits (row : List Cell) : Type 0 where
  pub loose : Loose row
  pub whole : Whole row

-- at a place of a table stands what is told, or a blank cell outside
at_table : (n : ℕ) (f : ℕ → Cell) (k : ℕ) → (cell_at (table n f) k ≡ f k) ⊎ (cell_at (table n f) k ≡ blank Default)
at_table n f k =
    let long = length-table n f in
    elim (cases_lt n k) [
      | inl past ↦ inr (nth_past (blank Default) (table n f) k (omega arith))
      | inr inside ↦ elim (cases_lt 0 k) [
        | inl low ↦ inl (nth-table (blank Default) n f k low inside)
        | inr never ↦ (let none : k ≡ 0 = omega arith in inr (ap (cell_at (table n f)) none ∙ nth_none (blank Default) (table n f)))
      ]
    ]

-- each half of a row is mended
pub mended_there : (paper : Colour) (row : List Cell) (k : ℕ) → cell_at (mended paper row) k
    ≡ (if is_half (cell_at row (k - 1)) (cell_at row k) (cell_at row (k + 1)) then blank paper else cell_at row k)
mended_there paper row k = cell_there row _ k (λ out.
    let none = cell_outside row k out in
    let narrow = ap is_wide none ∙ blank_narrow Default in
    let open_ = ap is_covered none ∙ blank_open Default in
    simp (narrow, open_) none)

one_kind : (kind : Kind) → wide_kind kind ≡ true → covered_kind kind ≡ false
one_kind Narrow e = refl
one_kind Wide e = refl
one_kind Covered e = cc

pub wide_open : (cell : Cell) → is_wide cell ≡ true → is_covered cell ≡ false
unfolding is_wide is_covered
wide_open cell e = one_kind cell.kind e

whole_mended : (paper : Colour) (row : List Cell) → Whole (mended paper row)
whole_mended paper row k =
    ap is_covered (mended_there paper row (k + 1)) ∙ mends ∙ ap is_wide (sym (mended_there paper row k))
  where
    mends : is_covered (if is_half (cell_at row (k + 1 - 1)) (cell_at row (k + 1)) (cell_at row (k + 1 + 1)) then blank paper else cell_at row (k + 1))
        ≡ is_wide (if is_half (cell_at row (k - 1)) (cell_at row k) (cell_at row (k + 1)) then blank paper else cell_at row k)
    mends =
        let narrow = blank_narrow paper in
        let open_ = blank_open paper in
        let one = wide_open (cell_at row k) in
        let two = wide_open (cell_at row (k + 1)) in
        let e : k + 1 - 1 ≡ k = omega arith in
        let f = ap (cell_at row) e in
        grind (arith, nat_tests)

and_none : (b : Bool) → (b && false) ≡ false
and_none true = refl
and_none false = refl

module _ (ascii : AsciiIsNarrow) where
  outside_cell : IsCell (blank Default)
  outside_cell = blank_cell ascii Default tt

  cell_in : (n : ℕ) (f : ℕ → Cell) → ((k : ℕ) → IsCell (f k)) → (k : ℕ) → IsCell (cell_at (table n f) k)
  cell_in n f cells k = elim (at_table n f k) [
    | inl there ↦ subst IsCell (sym there) (cells k)
    | inr outside ↦ subst IsCell (sym outside) outside_cell
  ]

  agree_in : (n : ℕ) (f : ℕ → Cell) → ((k : ℕ) → Agrees (f k) (f (k + 1))) → (k : ℕ) → Agrees (cell_at (table n f) k) (cell_at (table n f) (k + 1))
  agree_in n f agree k = elim (at_table n f k) [
    | inl there ↦ elim (at_table n f (k + 1)) [
      | inl next ↦ agrees_as _ _ _ _ there next (agree k)
      | inr outside ↦ agrees_open _ _ (ap is_covered outside ∙ blank_open Default)
    ]
    | inr outside ↦ agrees_narrow _ _ (ap is_wide outside ∙ blank_narrow Default)
  ]

  loose_table : (n : ℕ) (f : ℕ → Cell) → ((k : ℕ) → IsCell (f k)) → ((k : ℕ) → Agrees (f k) (f (k + 1))) → Loose (table n f)
  loose_table n f cells agree = record { cells = cell_in n f cells; agree = agree_in n f agree }

  -- some cells become blank
  blanked : (b : ℕ → Bool) (paper : Colour) (row : List Cell) → IsByteColour paper → Loose row
      → Loose (table (length row) (λ k. if b k then blank paper else cell_at row k))
  blanked b paper row is loose =
      loose_table (length row) (λ k. if b k then blank paper else cell_at row k)
      (λ k. either_cell (b k) (blank paper) (cell_at row k) (blank_cell ascii paper is) (loose.cells k))
      (λ k. agrees_blanked (b k) (b (k + 1)) paper (cell_at row k) (cell_at row (k + 1)) (loose.agree k))

  fits_mended : (paper : Colour) (row : List Cell) → IsByteColour paper → Loose row → Fits (mended paper row)
  fits_mended paper row is loose = record {
    loose = blanked (λ k. is_half (cell_at row (k - 1)) (cell_at row k) (cell_at row (k + 1))) paper row is loose;
    whole = whole_mended paper row;
  }

  -- ---- edits

  pub fits_erased : (from to : ℕ) (paper : Colour) (row : List Cell) → IsByteColour paper → Fits row → Fits (erased from to paper row)
  fits_erased from to paper row is fits =
      fits_mended paper (filled from to (blank paper) row) is (blanked (λ k. nat_le from k && nat_le k to) paper row is fits.loose)

  module _ (at character : ℕ) (wide : Bool) (rendition : Rendition) (row : List Cell) (shown : IsShown character wide) (colours : IsByteRendition rendition)
      (fits : Fits row) where
    abbrev wrote : ℕ → Cell
    wrote k =
        if k == at
        then lettered character wide rendition
        else (if wide && k == at + 1 then covering rendition else cell_at row k)

    wrote_cell : (k : ℕ) → IsCell (wrote k)
    wrote_cell k =
        either_cell (k == at) _ _ (lettered_cell character wide rendition shown colours)
        (either_cell (wide && k == at + 1) _ _ (covering_cell rendition colours) (fits.loose.cells k))

    wrote_at : (k : ℕ) → k ≡ at → wrote k ≡ lettered character wide rendition
    wrote_at k e = let test : (k == at) ≡ true = grind (arith, nat_tests) in simp test

    wrote_covering : (k : ℕ) → k ≡ at + 1 → wide ≡ true → wrote k ≡ covering rendition
    wrote_covering k e is_wide_too =
        let test : (k == at) ≡ false = grind (arith, nat_tests) in let next : (k == at + 1) ≡ true = grind (arith, nat_tests) in simp (test, next, is_wide_too)

    wrote_else : (k : ℕ) → (k == at) ≡ false → (wide && k == at + 1) ≡ false → wrote k ≡ cell_at row k
    wrote_else k one two = simp (one, two)

    no_next : (k : ℕ) → (k == at + 1) ≡ false → (wide && k == at + 1) ≡ false
    no_next k e = ap (λ b. wide && b) e ∙ and_none wide

    wrote_agree : (k : ℕ) → Agrees (wrote k) (wrote (k + 1))
    wrote_agree k = elim (cases_eq (k + 1) at) [
      | inl e ↦ agrees_open _ _ (ap is_covered (wrote_at (k + 1) e) ∙ lettered_open character wide rendition)
      | inr ne ↦ elim (cases_eq k at) [
        | inl here ↦ elim (cases_Bool wide) [
          | inl two ↦ (let next : k + 1 ≡ at + 1 = omega arith in
              agrees_as _ _ _ _ (wrote_at k here) (wrote_covering (k + 1) next two) (λ w c. covering_rendition rendition ∙ sym (lettered_rendition character wide rendition)))
          | inr one ↦ agrees_narrow _ _ (ap is_wide (wrote_at k here) ∙ lettered_wide character wide rendition ∙ one)
        ]
        | inr away ↦ (let apart : (k == at) ≡ false = grind (arith, nat_tests) in
            let after : (k + 1 == at) ≡ false = grind (arith, nat_tests) in
            let later : (k + 1 == at + 1) ≡ false = grind (arith, nat_tests) in
            let right = wrote_else (k + 1) after (no_next (k + 1) later) in
            elim (cases_Bool (wide && k == at + 1)) [
              | inl covers ↦ agrees_narrow _ _ (ap is_wide (simp (apart, covers) refl) ∙ covering_narrow rendition)
              | inr free ↦ agrees_as _ _ _ _ (wrote_else k apart free) right (fits.loose.agree k)
            ])
      ]
    ]

    pub fits_put : Fits (put at character wide rendition row)
    fits_put =
        fits_mended rendition.paper (written at character wide rendition row) colours.paper (loose_table (length row) wrote wrote_cell wrote_agree)

  -- ---- marks

  pub character_open : (at : ℕ) (row : List Cell) → Whole row → 1 ≤ at → is_covered (cell_at row (character_column at row)) ≡ false
  character_open at row whole low = elim (cases_Bool (is_covered (cell_at row at))) [
    | inl covered ↦ (let next : at - 1 + 1 ≡ at = omega arith in
        let left : is_wide (cell_at row (at - 1)) ≡ true = sym (whole (at - 1)) ∙ ap (λ j. is_covered (cell_at row j)) next ∙ covered in
        ap (λ b. is_covered (cell_at row (if b then at - 1 else at))) covered ∙ wide_open (cell_at row (at - 1)) left)
    | inr open_ ↦ ap (λ b. is_covered (cell_at row (if b then at - 1 else at))) open_ ∙ open_
  ]

  module _ (at mark : ℕ) (row : List Cell) (low : 1 ≤ at) (is : IsMark mark) (fits : Fits row) where
    abbrev marked : Bool → Cell → Cell
    marked b cell = if b then with_mark mark cell else cell

    any_wide : (b : Bool) (cell : Cell) → is_wide (marked b cell) ≡ is_wide cell
    any_wide true cell = marked_wide mark cell
    any_wide false cell = refl

    any_covered : (b : Bool) (cell : Cell) → is_covered (marked b cell) ≡ is_covered cell
    any_covered true cell = marked_covered mark cell
    any_covered false cell = refl

    any_rendition : (b : Bool) (cell : Cell) → (marked b cell).rendition ≡ cell.rendition
    any_rendition true cell = marked_rendition mark cell
    any_rendition false cell = refl

    any_agree : (b c : Bool) (x y : Cell) → Agrees x y → Agrees (marked b x) (marked c y)
    any_agree b c x y agrees = λ wide covered.
        any_rendition c y ∙ agrees (sym (any_wide b x) ∙ wide) (sym (any_covered c y) ∙ covered) ∙ sym (any_rendition b x)

    any_cell : (b : Bool) (cell : Cell) → (b ≡ true → is_covered cell ≡ false) → IsCell cell → IsCell (marked b cell)
    any_cell true cell open_ fits_too = marked_cell mark cell is (open_ refl) fits_too
    any_cell false cell open_ fits_too = fits_too

    there : (k : ℕ) → (k == character_column at row) ≡ true → is_covered (cell_at row k) ≡ false
    there k same =
        let e : k ≡ character_column at row = grind (arith, nat_tests) in
        ap (λ j. is_covered (cell_at row j)) e ∙ character_open at row fits.whole low

    cases_out : (k : ℕ) → ((cell_at (mark_added at mark row) k ≡ blank Default) × (cell_at row k ≡ blank Default))
        ⊎ (cell_at (mark_added at mark row) k ≡ marked (k == character_column at row) (cell_at row k))
    cases_out k =
        let f : ℕ → Cell = λ j. marked (j == character_column at row) (cell_at row j) in
        let long = length-table (length row) f in
        elim (cases_lt (length row) k) [
          | inl past ↦ inl (cell_outside (mark_added at mark row) k (λ some. omega arith), cell_outside row k (λ some. past))
          | inr inside ↦ elim (cases_lt 0 k) [
            | inl some ↦ inr (nth-table (blank Default) (length row) f k some inside)
            | inr never ↦ inl (cell_outside (mark_added at mark row) k (λ some. absurd (omega arith)), cell_outside row k (λ some. absurd (omega arith)))
          ]
        ]

    wide_same : (k : ℕ) → is_wide (cell_at (mark_added at mark row) k) ≡ is_wide (cell_at row k)
    wide_same k = elim (cases_out k) [
      | inl out ↦ ap is_wide (out.0 ∙ sym out.1)
      | inr inside ↦ ap is_wide inside ∙ any_wide (k == character_column at row) (cell_at row k)
    ]

    covered_same : (k : ℕ) → is_covered (cell_at (mark_added at mark row) k) ≡ is_covered (cell_at row k)
    covered_same k = elim (cases_out k) [
      | inl out ↦ ap is_covered (out.0 ∙ sym out.1)
      | inr inside ↦ ap is_covered inside ∙ any_covered (k == character_column at row) (cell_at row k)
    ]

    pub fits_marked : Fits (mark_added at mark row)
    fits_marked = record {
      loose = loose_table (length row) (λ k. marked (k == character_column at row) (cell_at row k))
          (λ k. any_cell (k == character_column at row) (cell_at row k) (there k) (fits.loose.cells k))
          (λ k. any_agree (k == character_column at row) (k + 1 == character_column at row) (cell_at row k) (cell_at row (k + 1)) (fits.loose.agree k));
      whole = λ k. covered_same (k + 1) ∙ fits.whole k ∙ sym (wide_same k);
    }

  -- ---- cells that come in and go

  module _ (n from : ℕ) (paper : Colour) (row : List Cell) (is : IsByteColour paper) (loose : Loose row) where
    abbrev moved : ℕ → Cell
    moved k = if nat_le from k then (if nat_le (from + n) k then cell_at row (k - n) else blank paper) else cell_at row k

    moved_cell : (k : ℕ) → IsCell (moved k)
    moved_cell k =
        either_cell (nat_le from k) _ _ (either_cell (nat_le (from + n) k) _ _ (loose.cells (k - n)) (blank_cell ascii paper is)) (loose.cells k)

    moved_back : (k : ℕ) → from + n ≤ k → moved k ≡ cell_at row (k - n)
    moved_back k past =
        let one : nat_le from k ≡ true = grind (arith, nat_tests) in let two : nat_le (from + n) k ≡ true = grind (arith, nat_tests) in simp (one, two)

    moved_blank : (k : ℕ) → from ≤ k → k < from + n → moved k ≡ blank paper
    moved_blank k past short =
        let one : nat_le from k ≡ true = grind (arith, nat_tests) in let two : nat_le (from + n) k ≡ false = grind (arith, nat_tests) in simp (one, two)

    moved_before : (k : ℕ) → k < from → moved k ≡ cell_at row k
    moved_before k before = let one : nat_le from k ≡ false = grind (arith, nat_tests) in simp one

    moved_agree : (k : ℕ) → Agrees (moved k) (moved (k + 1))
    moved_agree k = elim (cases_lt k from) [
      | inl before ↦ elim (cases_lt (k + 1) from) [
        | inl still ↦ agrees_as _ _ _ _ (moved_before k before) (moved_before (k + 1) still) (loose.agree k)
        | inr here ↦ elim (cases_lt (k + 1) (from + n)) [
          | inl some ↦ agrees_open _ _ (ap is_covered (moved_blank (k + 1) here some) ∙ blank_open paper)
          | inr none ↦ (let same : k + 1 - n ≡ k + 1 = omega arith in
              agrees_as _ _ _ _ (moved_before k before) (moved_back (k + 1) none ∙ ap (cell_at row) same) (loose.agree k))
        ]
      ]
      | inr past ↦ elim (cases_lt k (from + n)) [
        | inl some ↦ agrees_narrow _ _ (ap is_wide (moved_blank k past some) ∙ blank_narrow paper)
        | inr all ↦ (let same : k + 1 - n ≡ k - n + 1 = omega arith in let next : from + n ≤ k + 1 = omega arith in
            agrees_as _ _ _ _ (moved_back k all) (moved_back (k + 1) next ∙ ap (cell_at row) same) (loose.agree (k - n)))
      ]
    ]

    pub fits_inserted : Fits (inserted n from paper row)
    fits_inserted = fits_mended paper (moved_right n from paper row) is (loose_table (length row) moved moved_cell moved_agree)

    -- where the cell that comes to the column is no half
    module _ (open_ : is_covered (cell_at row (from + n)) ≡ false) where
      abbrev drawn_in : ℕ → Cell
      drawn_in k = if nat_le from k then (if nat_le (k + n) (length row) then cell_at row (k + n) else blank paper) else cell_at row k

      drawn_cell : (k : ℕ) → IsCell (drawn_in k)
      drawn_cell k =
          either_cell (nat_le from k) _ _ (either_cell (nat_le (k + n) (length row)) _ _ (loose.cells (k + n)) (blank_cell ascii paper is)) (loose.cells k)

      drawn_from : (k : ℕ) → from ≤ k → k + n ≤ length row → drawn_in k ≡ cell_at row (k + n)
      drawn_from k past inside =
          let one : nat_le from k ≡ true = grind (arith, nat_tests) in let two : nat_le (k + n) (length row) ≡ true = grind (arith, nat_tests) in simp (one, two)

      drawn_blank : (k : ℕ) → from ≤ k → length row < k + n → drawn_in k ≡ blank paper
      drawn_blank k past out =
          let one : nat_le from k ≡ true = grind (arith, nat_tests) in let two : nat_le (k + n) (length row) ≡ false = grind (arith, nat_tests) in simp (one, two)

      drawn_before : (k : ℕ) → k < from → drawn_in k ≡ cell_at row k
      drawn_before k before = let one : nat_le from k ≡ false = grind (arith, nat_tests) in simp one

      drawn_agree : (k : ℕ) → Agrees (drawn_in k) (drawn_in (k + 1))
      drawn_agree k = elim (cases_lt k from) [
        | inl before ↦ elim (cases_lt (k + 1) from) [
          | inl still ↦ agrees_as _ _ _ _ (drawn_before k before) (drawn_before (k + 1) still) (loose.agree k)
          | inr here ↦ elim (cases_lt (length row) (k + 1 + n)) [
            | inl out ↦ agrees_open _ _ (ap is_covered (drawn_blank (k + 1) here out) ∙ blank_open paper)
            | inr inside ↦ (let same : k + 1 + n ≡ from + n = omega arith in
                agrees_open _ _ (ap is_covered (drawn_from (k + 1) here inside ∙ ap (cell_at row) same) ∙ open_))
          ]
        ]
        | inr past ↦ (let later : from ≤ k + 1 = omega arith in elim (cases_lt (length row) (k + 1 + n)) [
          | inl out ↦ agrees_open _ _ (ap is_covered (drawn_blank (k + 1) later out) ∙ blank_open paper)
          | inr inside ↦ (let same : k + 1 + n ≡ k + n + 1 = omega arith in let here : k + n ≤ length row = omega arith in
              agrees_as _ _ _ _ (drawn_from k past here) (drawn_from (k + 1) later inside ∙ ap (cell_at row) same) (loose.agree (k + n)))
        ])
      ]

      loose_taken : Loose (taken_out n from paper row)
      loose_taken = loose_table (length row) drawn_in drawn_cell drawn_agree

  loose_parted : (border : ℕ) (paper : Colour) (row : List Cell) → IsByteColour paper → Loose row → Loose (parted border paper row)
  loose_parted border paper row is loose =
      blanked (λ k. is_covered (cell_at row border) && (k == border || k + 1 == border)) paper row is loose

  parted_open : (border : ℕ) (paper : Colour) (row : List Cell) → is_covered (cell_at (parted border paper row) border) ≡ false
  parted_open border paper row =
      let f : ℕ → Cell = λ k. if is_covered (cell_at row border) && (k == border || k + 1 == border) then blank paper else cell_at row k in
      elim (at_table (length row) f border) [
        | inl there ↦ ap is_covered there ∙ elim (cases_Bool (is_covered (cell_at row border))) [
          | inl covered ↦ (let same : (border == border) ≡ true = grind (arith, nat_tests) in simp (covered, same) (blank_open paper))
          | inr open_ ↦ simp open_
        ]
        | inr outside ↦ ap is_covered outside ∙ blank_open Default
      ]

  pub fits_deleted : (n from : ℕ) (paper : Colour) (row : List Cell) → IsByteColour paper → Fits row → Fits (deleted n from paper row)
  fits_deleted n from paper row is fits =
      let one : List Cell = parted from paper row in
      let two : List Cell = parted (from + n) paper one in
      let loose = loose_parted (from + n) paper one is (loose_parted from paper row is fits.loose) in
      fits_mended paper (taken_out n from paper two) is (loose_taken n from paper two is loose (parted_open (from + n) paper one))

  -- ---- whole rows

  fits_row_of : (columns : ℕ) (cell : Cell) → is_wide cell ≡ false → is_covered cell ≡ false → IsCell cell → Fits (row_of columns cell)
  fits_row_of columns cell narrow open_ is = record {
    loose = loose_table columns (λ _. cell) (λ k. is) (λ k. agrees_narrow cell cell narrow);
    whole = λ k. always (k + 1) ∙ sym (never k);
  }
    where
      always : (k : ℕ) → is_covered (cell_at (row_of columns cell) k) ≡ false
      always k = elim (at_table columns (λ _. cell) k) [
        | inl there ↦ ap is_covered there ∙ open_
        | inr outside ↦ ap is_covered outside ∙ blank_open Default
      ]

      never : (k : ℕ) → is_wide (cell_at (row_of columns cell) k) ≡ false
      never k = elim (at_table columns (λ _. cell) k) [
        | inl there ↦ ap is_wide there ∙ narrow
        | inr outside ↦ ap is_wide outside ∙ blank_narrow Default
      ]

  pub fits_blank_row : (columns : ℕ) (paper : Colour) → IsByteColour paper → Fits (row_of columns (blank paper))
  fits_blank_row columns paper is = fits_row_of columns (blank paper) (blank_narrow paper) (blank_open paper) (blank_cell ascii paper is)

  pub fits_aligned_row : (columns : ℕ) → Fits (row_of columns alignment)
  fits_aligned_row columns =
      let shown : IsShown 69 false = record { no_c1 = refl; columns = ascii 69 refl; typed = inl refl } in
      fits_row_of columns alignment (lettered_wide 69 false _) (lettered_open 69 false _)
      (lettered_cell 69 false _ shown (record { ink = tt; paper = tt }))

  -- no row
  pub fits_none : Fits []
  fits_none = record {
    loose = record { cells = λ k. subst IsCell (sym (none k)) outside_cell; agree = λ k. agrees_narrow _ _ (ap is_wide (none k) ∙ blank_narrow Default) };
    whole = λ k. ap is_covered (none (k + 1)) ∙ blank_open Default ∙ sym (ap is_wide (none k) ∙ blank_narrow Default);
  }
    where
      none : (k : ℕ) → cell_at [] k ≡ blank Default
      none k = cell_outside [] k (λ some. some)
