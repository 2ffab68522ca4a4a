-- Rows of cells, and the halves in them.
use Rattle.std.proofs.Common.{◌≡◌, ℕ, ◌+◌, ◌-◌, ◌<◌, ◌≤◌, ◌≢◌, Bool, true, false, List, length, drop, get_or, set, refl, sym, ap, inl, inr, ◌∙◌, arith}
use Rattle.std.specs.Prelude.{if◌then◌else◌, ◌==◌, ◌&&◌, ◌||◌, ◌++◌, not, nat_le}
use Rattle.std.proofs.lemmas.Bool.{cases_eq, cases_lt}
use Rattle.std.proofs.lemmas.Bool.Decides.{nat_tests}
use Rattle.std.specs.Prelude.{replicate}
use Rattle.std.proofs.lemmas.List.{length-set, length-replicate, get_or-append_right, get_or-drop, get_or-replicate, get_or_append_left, get_or_default}
use Rattle.sheet.specs.Cells.{Cell}
use Rattle.sheet.specs.declared.rendition.Colour.{Colour}
use Rattle.sheet.specs.declared.rendition.Colour.TheVariants.{Default}
use Rattle.sheet.specs.declared.cell.Kind.{Kind}
use Rattle.sheet.specs.declared.cell.Kind.TheVariants.{Narrow, Wide, Covered}
use Rattle.sheet.specs.Table.{table}
use Rattle.sheet.specs.Cells.{blank, covering, lettered, is_wide, is_covered, wide_kind, covered_kind, cell_at}
use Rattle.sheet.specs.declared.rendition.Rendition.{Rendition}
use Rattle.sheet.specs.Halves.{Whole, is_half, mended, border_mended, parted}
use Rattle.sheet.specs.Edits.{filled, written, put}
use Rattle.sheet.proofs.Tables.{length-table, nth-table, nth-table_any, nth_is, nth_none, nth_past, table_ext, is_table, table_is, nth-set}

-- no cell is both
kinds : (k : Kind) → wide_kind k ≡ true → covered_kind k ≡ false
kinds Narrow e = refl
kinds Wide e = refl
kinds Covered e = cc

pub either : (cell : Cell) → is_wide cell ≡ true → is_covered cell ≡ false
unfolding is_wide is_covered
either cell e = kinds cell.kind e

-- a blank cell is neither
pub blank_narrow : (paper : Colour) → is_wide (blank paper) ≡ false
unfolding is_wide blank
blank_narrow paper = refl

pub blank_open : (paper : Colour) → is_covered (blank paper) ≡ false
unfolding is_covered blank
blank_open paper = refl

-- the border right of a column cuts no character
abbrev pub Intact : List Cell → ℕ → Type 0
Intact row k = is_covered (cell_at row (k + 1)) ≡ is_wide (cell_at row k)

abbrev mended_at : Colour → List Cell → ℕ → Cell
mended_at paper row k = if is_half (cell_at row (k - 1)) (cell_at row k) (cell_at row (k + 1)) then blank paper else cell_at row k

half_by : (paper : Colour) (a x b y c z : Cell) → a ≡ x → b ≡ y → c ≡ z
    → (if is_half a b c then blank paper else b) ≡ (if is_half x y z then blank paper else y)
half_by paper a x b y c z left here right =
    ap (λ (e : Cell). if is_half e b c then blank paper else b) left
    ∙ ap (λ (e : Cell). if is_half x e c then blank paper else e) here
    ∙ ap (λ (e : Cell). if is_half x y e then blank paper else y) right

-- what each place holds once a border is mended
module _ (border : ℕ) (paper : Colour) (row : List Cell) (low : 1 ≤ border) where
  abbrev step : ℕ → Cell
  step k =
      if (k + 1 == border && is_wide (cell_at row k) && not (is_covered (cell_at row border)))
      || (k == border && is_covered (cell_at row k) && not (is_wide (cell_at row (border - 1))))
      then blank paper
      else cell_at row k

  -- at any place, outside the row too
  pub at_mended : (k : ℕ) → cell_at (border_mended border paper row) k ≡ step k
  at_mended k =
      let here = nth-table_any (blank Default) (length row) step k in
      let past = nth_past (blank Default) row k in
      let none = nth_none (blank Default) row in
      let narrow = blank_narrow Default in
      let open_ = blank_open Default in
      elim (cases_lt (length row) k) [
        | inl out ↦ (let e = past out in grind (arith, nat_tests))
        | inr within ↦ elim (cases_lt 0 k) [
          | inl low ↦ grind (arith, nat_tests)
          | inr zero ↦ (let e : k ≡ 0 = omega arith in let f = ap (cell_at row) e in grind (arith, nat_tests))
        ]
      ]

  -- a border that is mended makes no other halves
  mended_here : (k : ℕ) → 1 ≤ k
      → (if is_half (step (k - 1)) (step k) (step (k + 1)) then blank paper else step k)
      ≡ (if is_half (cell_at row (k - 1)) (cell_at row k) (cell_at row (k + 1)) then blank paper else cell_at row k)
  mended_here k klow =
      let narrow = blank_narrow paper in
      let uncovered = blank_open paper in
      let one = either (cell_at row k) in
      let two = either (cell_at row (k - 1)) in
      let three = either (cell_at row (k + 1)) in
      elim (cases_eq (k + 1) border) [
        | inl e ↦ (let f = ap (cell_at row) e in let g : border - 1 ≡ k = omega arith in let h = ap (cell_at row) g in grind (arith, nat_tests))
        | inr ne ↦ elim (cases_eq k border) [
          | inl e ↦ (let f = ap (cell_at row) e in let g : border - 1 ≡ k - 1 = omega arith in let h = ap (cell_at row) g in grind (arith, nat_tests))
          | inr away ↦ elim (cases_eq (k + 1 + 1) border) [
            | inl e ↦ (let g : border - 1 ≡ k + 1 = omega arith in let h = ap (cell_at row) g in grind (arith, nat_tests))
            | inr nu ↦ elim (cases_eq (k - 1) border) [
              | inl e ↦ (let f = ap (cell_at row) e in grind (arith, nat_tests))
              | inr ni ↦ grind (arith, nat_tests)
            ]
          ]
        ]
      ]

  pub mended_same : mended paper (border_mended border paper row) ≡ mended paper row
  mended_same =
      let new = border_mended border paper row in
      ap (λ (n : ℕ). table n (mended_at paper new)) (length-table (length row) step)
      ∙ table_ext (length row) _ _ (λ k klow khigh.
      half_by paper _ _ _ _ _ _ (at_mended (k - 1)) (at_mended k) (at_mended (k + 1)) ∙ mended_here k klow)

  -- it makes its own border whole, and keeps each other one that was
  step_still : (k : ℕ) → (k + 1 ≢ border → Intact row k) → is_covered (step (k + 1)) ≡ is_wide (step k)
  step_still k was =
      let narrow = blank_narrow paper in
      let uncovered = blank_open paper in
      let one = either (cell_at row k) in
      let three = either (cell_at row (k + 1)) in
      elim (cases_eq (k + 1) border) [
        | inl e ↦ (let f = ap (cell_at row) e in let g : border - 1 ≡ k = omega arith in let h = ap (cell_at row) g in grind (arith, nat_tests))
        | inr ne ↦ (let before = was ne in elim (cases_eq k border) [
          | inl e ↦ (let f = ap (cell_at row) e in let g : border - 1 ≡ k - 1 = omega arith in let h = ap (cell_at row) g in grind (arith, nat_tests))
          | inr away ↦ elim (cases_eq (k + 1 + 1) border) [
            | inl e ↦ (let g : border - 1 ≡ k + 1 = omega arith in let h = ap (cell_at row) g in grind (arith, nat_tests))
            | inr far ↦ grind (arith, nat_tests)
          ]
        ])
      ]

  pub still : (k : ℕ) → (k + 1 ≢ border → Intact row k) → Intact (border_mended border paper row) k
  still k was = ap is_covered (at_mended (k + 1)) ∙ step_still k was ∙ ap is_wide (sym (at_mended k))

-- a whole row has no halves
pub mended_whole : (paper : Colour) (row : List Cell) → Whole row → mended paper row ≡ row
mended_whole paper row whole =
    table_ext (length row) _ (cell_at row) (λ k low high.
    let right = whole k in
    let left = whole (k - 1) in
    let e : k - 1 + 1 ≡ k = omega arith in
    let f = ap (cell_at row) e in
    grind (arith, nat_tests))
    ∙ sym (table_is (blank Default) (length row) row refl)

-- Mending its borders is mending the row.
pub two_mended : (first second : ℕ) (paper : Colour) (row : List Cell) → 1 ≤ first → 1 ≤ second
    → ((k : ℕ) → k + 1 ≢ first → k + 1 ≢ second → Intact row k)
    → border_mended second paper (border_mended first paper row) ≡ mended paper row
two_mended first second paper row flow slow intact =
    sym (mended_whole paper _ (λ k. still second paper (border_mended first paper row) slow k (λ b. still first paper row flow k (λ a. intact k a b))))
    ∙ mended_same second paper (border_mended first paper row) slow ∙ mended_same first paper row flow

pub three_mended : (first second third : ℕ) (paper : Colour) (row : List Cell) → 1 ≤ first → 1 ≤ second → 1 ≤ third
    → ((k : ℕ) → k + 1 ≢ first → k + 1 ≢ second → k + 1 ≢ third → Intact row k)
    → border_mended third paper (border_mended second paper (border_mended first paper row)) ≡ mended paper row
three_mended first second third paper row flow slow tlow intact =
    let one = border_mended first paper row in
    let two = border_mended second paper one in
    sym (mended_whole paper _ (λ k. still third paper two tlow k (λ c. still second paper one slow k (λ b. still first paper row flow k (λ a. intact k a b c)))))
    ∙ mended_same third paper two tlow ∙ mended_same second paper one slow ∙ mended_same first paper row flow

-- what stands at any place of a mended row
pub mended_there : (paper : Colour) (row : List Cell) (k : ℕ) → cell_at (mended paper row) k ≡ mended_at paper row k
mended_there paper row k =
    let here = nth-table_any (blank Default) (length row) (mended_at paper row) k in
    let past = nth_past (blank Default) row k in
    let none = nth_none (blank Default) row in
    let narrow = blank_narrow Default in
    let uncovered = blank_open Default in
    elim (cases_lt (length row) k) [
      | inl out ↦ (let e = past out in grind (arith, nat_tests))
      | inr within ↦ elim (cases_lt 0 k) [
        | inl low ↦ grind (arith, nat_tests)
        | inr zero ↦ (let e : k ≡ 0 = omega arith in let f = ap (cell_at row) e in grind (arith, nat_tests))
      ]
    ]

-- what is mended is whole
pub whole_mended : (paper : Colour) (row : List Cell) → Whole (mended paper row)
whole_mended paper row k =
    ap is_covered (mended_there paper row (k + 1)) ∙ mends k ∙ ap is_wide (sym (mended_there paper row k))
  where
    mends : (k : ℕ) → is_covered (mended_at paper row (k + 1)) ≡ is_wide (mended_at paper row k)
    mends k =
        let narrow = blank_narrow paper in
        let uncovered = blank_open paper in
        let one = either (cell_at row k) in
        let two = either (cell_at row (k + 1)) in
        let e : k + 1 - 1 ≡ k = omega arith in
        let f = ap (cell_at row) e in
        grind (arith, nat_tests)

-- a cell as the code reads it
pub cell_read : (row : List Cell) (d : Cell) (k : ℕ) → 1 ≤ k → k ≤ length row → get_or row (k - 1) d ≡ cell_at row k
cell_read row d k low high = get_or_default row (k - 1) d (blank Default) (omega arith) ∙ sym (nth_is (blank Default) row k low)

-- cells that take the place of a row's first ones
module _ (front row : List Cell) (n : ℕ) (len : length front ≡ n) (k : ℕ) (low : 1 ≤ k) where
  pub front_there : k ≤ n → cell_at (front ++ drop n row) k ≡ cell_at front k
  front_there within =
      nth_is (blank Default) (front ++ drop n row) k low ∙ get_or_append_left front (drop n row) (blank Default) (k - 1) (omega arith)
      ∙ sym (nth_is (blank Default) front k low)

  pub behind_there : n < k → cell_at (front ++ drop n row) k ≡ cell_at row k
  behind_there past =
      nth_is (blank Default) (front ++ drop n row) k low ∙ get_or-append_right front (drop n row) n (k - 1) (blank Default) len (omega arith)
      ∙ get_or-drop n row (k - 1 - n) (blank Default) ∙ ap (λ (i : ℕ). get_or row i (blank Default)) (omega arith) ∙ sym (nth_is (blank Default) row k low)

-- outside the row stands a blank cell
pub cell_outside : (row : List Cell) (k : ℕ) → (0 < k → length row < k) → cell_at row k ≡ blank Default
cell_outside row k out =
    elim (cases_lt 0 k) [
      | inl low ↦ nth_past (blank Default) row k (out low)
      | inr zero ↦ (let e : k ≡ 0 = omega arith in ap (cell_at row) e ∙ nth_none (blank Default) row)
    ]

-- what the body leaves as it mends a border
module _ (border : ℕ) (paper : Colour) (row : List Cell) (cell : Cell) (is_blank : cell ≡ blank paper) where
  pub left_blanked : 1 ≤ border - 1 → border - 1 ≤ length row → is_wide (cell_at row (border - 1)) ≡ true → is_covered (cell_at row border) ≡ false
      → set row (border - 2) cell ≡ border_mended border paper row
  left_blanked low high left right =
      is_table (blank Default) (length row) _ _ (length-set row (border - 2) cell) (λ k klow khigh.
      let new = nth-set (blank Default) row (border - 2) cell k (omega arith) klow in
      elim (cases_eq k (border - 1)) [
        | inl e ↦ (let f = ap (cell_at row) e in grind (arith, nat_tests))
        | inr away ↦ grind (arith, nat_tests)
      ])

  pub right_blanked : 1 ≤ border → border ≤ length row → is_wide (cell_at row (border - 1)) ≡ false → is_covered (cell_at row border) ≡ true
      → set row (border - 1) cell ≡ border_mended border paper row
  right_blanked low high left right =
      is_table (blank Default) (length row) _ _ (length-set row (border - 1) cell) (λ k klow khigh.
      let new = nth-set (blank Default) row (border - 1) cell k (omega arith) klow in
      elim (cases_eq k border) [
        | inl e ↦ (let f = ap (cell_at row) e in grind (arith, nat_tests))
        | inr away ↦ elim (cases_eq (k + 1) border) [
          | inl e ↦ (let g : border - 1 ≡ k = omega arith in let f = ap (cell_at row) g in grind (arith, nat_tests))
          | inr far ↦ grind (arith, nat_tests)
        ]
      ])

pub none_blanked : (border : ℕ) (paper : Colour) (row : List Cell) → is_wide (cell_at row (border - 1)) ≡ is_covered (cell_at row border)
    → row ≡ border_mended border paper row
none_blanked border paper row same =
    is_table (blank Default) (length row) _ _ refl (λ k klow khigh.
    elim (cases_eq k border) [
      | inl e ↦ (let f = ap (cell_at row) e in grind (arith, nat_tests))
      | inr away ↦ elim (cases_eq (k + 1) border) [
        | inl e ↦ (let g : border - 1 ≡ k = omega arith in let f = ap (cell_at row) g in grind (arith, nat_tests))
        | inr far ↦ grind (arith, nat_tests)
      ]
    ])

-- what the body leaves as it parts a border
pub both_blanked : (border : ℕ) (paper : Colour) (row : List Cell) (left right : Cell) → left ≡ blank paper → right ≡ blank paper
    → 2 ≤ border → border ≤ length row → is_covered (cell_at row border) ≡ true
    → set (set row (border - 2) left) (border - 1) right ≡ parted border paper row
both_blanked border paper row left right is_left is_right low high cut =
    is_table (blank Default) (length row) _ _ (length-set (set row (border - 2) left) (border - 1) right ∙ length-set row (border - 2) left) (λ k klow khigh.
    let len = length-set row (border - 2) left in
    let new = nth-set (blank Default) (set row (border - 2) left) (border - 1) right k (omega arith) klow in
    let mid = nth-set (blank Default) row (border - 2) left k (omega arith) klow in
    grind (arith, nat_tests))

pub none_parted : (border : ℕ) (paper : Colour) (row : List Cell) → is_covered (cell_at row border) ≡ false → row ≡ parted border paper row
none_parted border paper row uncut =
    is_table (blank Default) (length row) _ _ refl (λ k klow khigh. grind (arith, nat_tests))

-- the first column has no border that a character lies across
pub past_the_first : (row : List Cell) (border : ℕ) → Whole row → 1 ≤ border → is_covered (cell_at row border) ≡ true → 2 ≤ border
past_the_first row border whole low cut =
    elim (cases_lt 1 border) [
      | inl more ↦ more
      | inr first ↦
          let e : border ≡ 0 + 1 = omega arith in
          let f = ap (cell_at row) e in
          let w = whole 0 in
          let n = nth_none (blank Default) row in
          let b = blank_narrow Default in
          absurd (grind (arith, nat_tests))
    ]

-- Cells that are all one.
pub filled_none : (row : List Cell) (from to : ℕ) (cell : Cell) → to < from → row ≡ filled from to cell row
filled_none row from to cell none = is_table (blank Default) (length row) _ _ refl (λ k low high. grind (arith, nat_tests))

pub filled_more : (row : List Cell) (from i : ℕ) (cell : Cell) → from ≤ i + 1 → i < length row → set (filled from i cell row) i cell ≡ filled from (i + 1) cell row
filled_more row from i cell low high =
    let old : ℕ → Cell = λ k. if nat_le from k && nat_le k i then cell else cell_at row k in
    is_table (blank Default) (length row) _ _ (length-set (filled from i cell row) i cell ∙ length-table (length row) old) (λ k klow khigh.
    let len = length-table (length row) old in
    let was = nth-table (blank Default) (length row) old k klow khigh in
    let new = nth-set (blank Default) (filled from i cell row) i cell k (omega arith) klow in
    grind (arith, nat_tests))

-- what stands at any place of a filled row
pub filled_there : (row : List Cell) (from to : ℕ) (cell : Cell) (k : ℕ) → 1 ≤ from → to ≤ length row
    → cell_at (filled from to cell row) k ≡ (if nat_le from k && nat_le k to then cell else cell_at row k)
filled_there row from to cell k low high =
    let f : ℕ → Cell = λ j. if nat_le from j && nat_le j to then cell else cell_at row j in
    let here = nth-table_any (blank Default) (length row) f k in
    let out = cell_outside row k in
    elim (cases_lt (length row) k) [
      | inl past ↦ (let e = out (λ l. past) in grind (arith, nat_tests))
      | inr within ↦ elim (cases_lt 0 k) [
        | inl klow ↦ grind (arith, nat_tests)
        | inr zero ↦ (let e = out (λ l. absurd (omega arith)) in grind (arith, nat_tests))
      ]
    ]

pub filled_intact : (row : List Cell) (from to : ℕ) (cell : Cell) (k : ℕ) → Whole row → is_wide cell ≡ false → is_covered cell ≡ false → 1 ≤ from → to ≤ length row
    → k + 1 ≢ from → k + 1 ≢ to + 1 → Intact (filled from to cell row) k
filled_intact row from to cell k whole narrow uncovered low high a b =
    ap is_covered (filled_there row from to cell (k + 1) low high) ∙ here ∙ ap is_wide (sym (filled_there row from to cell k low high))
  where
    here : is_covered (if nat_le from (k + 1) && nat_le (k + 1) to then cell else cell_at row (k + 1)) ≡ is_wide (if nat_le from k && nat_le k to then cell else cell_at row k)
    here = let w = whole k in grind (arith, nat_tests)

pub outside_narrow : (row : List Cell) (k : ℕ) → (0 < k → length row < k) → false ≡ is_wide (cell_at row k)
outside_narrow row k out = sym (ap is_wide (cell_outside row k out) ∙ blank_narrow Default)

pub outside_open : (row : List Cell) (k : ℕ) → (0 < k → length row < k) → false ≡ is_covered (cell_at row k)
outside_open row k out = sym (ap is_covered (cell_outside row k out) ∙ blank_open Default)

-- Characters that are written.
pub lettered_wide : (character : ℕ) (wide : Bool) (rendition : Rendition) → is_wide (lettered character wide rendition) ≡ wide
unfolding is_wide lettered
lettered_wide character true rendition = refl
lettered_wide character false rendition = refl

pub lettered_open : (character : ℕ) (wide : Bool) (rendition : Rendition) → is_covered (lettered character wide rendition) ≡ false
unfolding is_covered lettered
lettered_open character true rendition = refl
lettered_open character false rendition = refl

pub covering_narrow : (rendition : Rendition) → is_wide (covering rendition) ≡ false
unfolding is_wide covering
covering_narrow rendition = refl

pub covering_covered : (rendition : Rendition) → is_covered (covering rendition) ≡ true
unfolding is_covered covering
covering_covered rendition = refl

module _ (column character : ℕ) (rendition : Rendition) (row : List Cell) (low : 1 ≤ column) where
  pub narrow_written : (cell : Cell) → cell ≡ lettered character false rendition → column ≤ length row
      → set row (column - 1) cell ≡ written column character false rendition row
  narrow_written cell is_cell high =
      is_table (blank Default) (length row) _ _ (length-set row (column - 1) cell) (λ k klow khigh.
      let new = nth-set (blank Default) row (column - 1) cell k (omega arith) klow in
      grind (arith, nat_tests))

  pub wide_written : (cell right : Cell) → cell ≡ lettered character true rendition → right ≡ covering rendition → column + 1 ≤ length row
      → set (set row (column - 1) cell) column right ≡ written column character true rendition row
  wide_written cell right is_cell is_right high =
      is_table (blank Default) (length row) _ _ (length-set (set row (column - 1) cell) column right ∙ length-set row (column - 1) cell) (λ k klow khigh.
      let len = length-set row (column - 1) cell in
      let new = nth-set (blank Default) (set row (column - 1) cell) column right k (omega arith) klow in
      let mid = nth-set (blank Default) row (column - 1) cell k (omega arith) klow in
      grind (arith, nat_tests))

  -- what stands at any place then
  pub written_there : (wide : Bool) (k : ℕ) → column ≤ length row → (wide ≡ true → column + 1 ≤ length row)
      → cell_at (written column character wide rendition row) k
      ≡ (if k == column then lettered character wide rendition else (if wide && k == column + 1 then covering rendition else cell_at row k))
  written_there wide k high room =
      let f : ℕ → Cell = λ j. if j == column then lettered character wide rendition else (if wide && j == column + 1 then covering rendition else cell_at row j) in
      let here = nth-table_any (blank Default) (length row) f k in
      let out = cell_outside row k in
      elim (cases_lt (length row) k) [
        | inl past ↦ (let e = out (λ l. past) in grind (arith, nat_tests))
        | inr within ↦ elim (cases_lt 0 k) [
          | inl klow ↦ grind (arith, nat_tests)
          | inr zero ↦ (let e = out (λ l. absurd (omega arith)) in grind (arith, nat_tests))
        ]
      ]

  module _ (whole : Whole row) where
    pub narrow_intact : (k : ℕ) → column ≤ length row → k + 1 ≢ column → k + 1 ≢ column + 1 → Intact (written column character false rendition row) k
    narrow_intact k high a b =
        let w = whole k in
        let here = written_there false k high (λ e. cc) in
        let next = written_there false (k + 1) high (λ e. cc) in
        grind (arith, nat_tests)

    pub wide_intact : (k : ℕ) → column + 1 ≤ length row → k + 1 ≢ column → k + 1 ≢ column + 2 → Intact (written column character true rendition row) k
    wide_intact k high a b =
        let w = whole k in
        let here = written_there true k (omega arith) (λ e. high) in
        let next = written_there true (k + 1) (omega arith) (λ e. high) in
        let one = lettered_wide character true rendition in
        let two = lettered_open character true rendition in
        let three = covering_narrow rendition in
        let four = covering_covered rendition in
        grind (arith, nat_tests)

    -- mending the borders of what was put
    pub narrow_put : column ≤ length row → let w : List Cell = written column character false rendition row in
        border_mended (column + 1) rendition.paper (border_mended column rendition.paper w) ≡ put column character false rendition row
    narrow_put high = two_mended column (column + 1) rendition.paper _ low (omega arith) (λ k a b. narrow_intact k high a b)

    pub wide_put : column + 1 ≤ length row → let w : List Cell = written column character true rendition row in
        border_mended (column + 2) rendition.paper (border_mended column rendition.paper w) ≡ put column character true rendition row
    wide_put high = two_mended column (column + 2) rendition.paper _ low (omega arith) (λ k a b. wide_intact k high a b)

pub length_erased : (from to : ℕ) (paper : Colour) (row : List Cell) → length (mended paper (filled from to (blank paper) row)) ≡ length row
length_erased from to paper row = length-table (length (filled from to (blank paper) row)) _ ∙ length-table (length row) _

-- a fill of the whole row
pub all_filled : (row : List Cell) (cell other : Cell) → cell ≡ other → filled 1 (length row) cell row ≡ table (length row) (λ _. other)
all_filled row cell other same = table_ext (length row) _ _ (λ k low high. grind (arith, nat_tests))

-- copies of one cell
pub all_copied : (cells : List Cell) (n : ℕ) (cell other : Cell) → cell ≡ other → cells ≡ replicate n cell → cells ≡ table n (λ _. other)
all_copied cells n cell other same copies =
    copies ∙ is_table (blank Default) n (replicate n cell) (λ _. other) (length-replicate n cell) (λ k low high.
    nth_is (blank Default) (replicate n cell) k low ∙ get_or-replicate n (k - 1) cell (blank Default) (omega arith) ∙ same)

-- a cell that is no half of a wide character stays none
pub still_narrow : (border : ℕ) (paper : Colour) (row : List Cell) (k : ℕ) → 1 ≤ border → is_wide (cell_at row k) ≡ false
    → is_wide (cell_at (border_mended border paper row) k) ≡ false
still_narrow border paper row k low is =
    let there = at_mended border paper row low k in
    let n = blank_narrow paper in
    ap is_wide there ∙ grind (arith, nat_tests)

-- a blank cell right of a border stays blank
pub still_blank : (border : ℕ) (paper : Colour) (row : List Cell) (k : ℕ) → 1 ≤ border → border ≤ k → cell_at row k ≡ blank Default
    → cell_at (border_mended border paper row) k ≡ blank Default
still_blank border paper row k low right is =
    let there = at_mended border paper row low k in
    let uncovered : is_covered (cell_at row k) ≡ false = ap is_covered is ∙ blank_open Default in
    there ∙ grind (arith, nat_tests)
