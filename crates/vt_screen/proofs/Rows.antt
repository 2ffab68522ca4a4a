-- Rows of 132 cells, and what is written to them.
use Rattle.std.proofs.Common.{◌≡◌, ℕ, ◌+◌, ◌-◌, ◌<◌, ◌≤◌, Bool, true, false, List, length, min, get_or, set, drop, refl, sym, ap, inl, inr, ◌∙◌, arith}
use Rattle.std.specs.Prelude.{if◌then◌else◌, ◌==◌, ◌&&◌, not, nat_le, nat_lt}
use Rattle.std.proofs.lemmas.Bool.{cases_eq, cases_lt}
use Rattle.std.proofs.lemmas.Bool.Decides.{nat_tests}
use Rattle.std.proofs.lemmas.List.{at_drop_more}
use Rattle.std.specs.List.{CopiedTo, SameBelow, SameFrom}
use Rattle.vt_screen.specs.declared.cell.Cell.{Cell}
use Rattle.vt_screen.specs.declared.cell.Size.{Size}
use Rattle.vt_screen.specs.declared.cell.Row.{Row}
use Rattle.vt_screen.specs.Attributes.{Attributes}
use Rattle.vt_screen.specs.Table.{table}
use Rattle.vt_screen.specs.CellEdits.{taken_out, moved_right}
use Rattle.vt_screen.specs.Cells.{blank, blank_cells, blank_row, cell_at, row_at, is_single}
use Rattle.vt_screen.specs.Puts.{with_cell, with_row}
use Rattle.vt_screen.specs.declared.cell.Size.TheVariants.{Single}
use Rattle.vt_screen.specs.Erasures.{in_line_part, part_erased}
use Rattle.vt_screen.specs.Lines.{filled_to, resized}
use Rattle.vt_screen.specs.Picture.{margin_of}
use Rattle.vt_screen.specs.Written.{filled, written, lines_changed}
use Rattle.vt_screen.proofs.Tables.{length-table, nth-table, nth_is, nth_next, is_table, table_ext, table_is, set_is}

pub blank_whole : length blank_cells ≡ 132
unfolding blank_cells
blank_whole = refl

-- a row of these cells
pub row_is : (size : Size) (cells others : List Cell) → cells ≡ others → let a : Row = record { size = size; cells = cells } in let b : Row = record { size = size; cells = others } in a ≡ b
row_is size cells others same = ap (λ (x : List Cell). let r : Row = record { size = size; cells = x } in r) same

-- a write of one cell, by the index of the code
pub cell_written : (row : Row) (column : ℕ) (cell : Cell) → length row.cells ≡ 132 → 1 ≤ column → column ≤ 132 → let r : Row = record { size = row.size; cells = set row.cells (column - 1) cell } in r ≡ with_cell column cell row
cell_written row column cell whole low high =
    row_is row.size _ _ (set_is blank 132 row.cells (column - 1) cell whole (omega arith)
    ∙ table_ext 132 _ _ (λ k klow khigh. ap (λ (j : ℕ). if k == j then cell else cell_at row k) (omega arith)))

pub cell_written_at : (row : Row) (column i : ℕ) (cell : Cell) → length row.cells ≡ 132 → 1 ≤ column → column + i ≤ 132 → let r : Row = record { size = row.size; cells = set row.cells (column - 1 + i) cell } in r ≡ with_cell (column + i) cell row
cell_written_at row column i cell whole low high =
    row_is row.size _ _ (set_is blank 132 row.cells (column - 1 + i) cell whole (omega arith)
    ∙ table_ext 132 _ _ (λ k klow khigh. ap (λ (j : ℕ). if k == j then cell else cell_at row k) (omega arith)))

-- what is left to write from glyph i on is one glyph, and what is left from the next
pub written_more : (glyphs : List ℕ) (column i : ℕ) (rendition : Attributes) (row : Row) → i < length glyphs
    → written (column + i) (drop i glyphs) rendition row
    ≡ written (column + (i + 1)) (drop (i + 1) glyphs) rendition (with_cell (column + i) (record { glyph = get_or glyphs i 0; rendition = rendition }) row)
written_more glyphs column i rendition row below =
    at_drop_more (λ gs. written (column + i) gs rendition row) glyphs i 0 below
    ∙ ap (λ (k : ℕ). written k (drop (i + 1) glyphs) rendition (with_cell (column + i) (record { glyph = get_or glyphs i 0; rendition = rendition }) row)) (omega arith)

-- nothing is filled yet
pub filled_none : (row : Row) (from to : ℕ) (cell : Cell) → length row.cells ≡ 132 → to < from → row ≡ filled from to cell row
filled_none row from to cell whole none =
    row_is row.size _ _ (table_is blank 132 row.cells whole ∙ table_ext 132 _ _ (λ k low high. grind (arith, nat_tests)))

-- one more cell is filled
pub filled_more : (row : Row) (from i : ℕ) (cell : Cell) → from ≤ i + 1 → i < 132 → let r : Row = record { size = row.size; cells = set (filled from i cell row).cells i cell } in r ≡ filled from (i + 1) cell row
filled_more row from i cell low high =
    let old = λ (k : ℕ). if nat_le from k && nat_le k i then cell else cell_at row k in
    row_is row.size _ _ (set_is blank 132 (table 132 old) i cell (length-table 132 old) high
    ∙ table_ext 132 _ _ (λ k klow khigh.
    let was = nth-table blank 132 old k klow khigh in
    elim (cases_eq k (i + 1)) [ inl e ↦ grind (arith, nat_tests) | inr ne ↦ grind (arith, nat_tests) ]))

-- the column 132 ends each part that goes to the end, and column 1 begins each that goes from the start
to_the_end : (cursor k : ℕ) → k ≤ 132 → nat_le cursor k && nat_le k 132 ≡ nat_le cursor k
to_the_end cursor k high = grind (arith, nat_tests)

from_the_start : (cursor k : ℕ) → 1 ≤ k → nat_le 1 k && nat_le k cursor ≡ nat_le k cursor
from_the_start cursor k low = grind (arith, nat_tests)

all_columns : (k : ℕ) → 1 ≤ k → k ≤ 132 → nat_le 1 k && nat_le k 132 ≡ true
all_columns k low high = grind (arith, nat_tests)

-- a part of a row, as what is filled
module _ (part cursor : ℕ) (row new : Row) (cell : Cell) where
  part_filled : (from to : ℕ) → cell ≡ blank → new ≡ filled from to cell row
      → ((k : ℕ) → 1 ≤ k → k ≤ 132 → nat_le from k && nat_le k to ≡ in_line_part part cursor k)
      → new ≡ part_erased part cursor row
  part_filled from to is_blank is_new same =
      is_new ∙ row_is row.size _ _ (table_ext 132 _ _ (λ k low high.
      ap (λ (b : Bool). if b then cell else cell_at row k) (same k low high)
      ∙ ap (λ (e : Cell). if in_line_part part cursor k then e else cell_at row k) is_blank))

  pub erased_to_the_end : part ≡ 0 → cell ≡ blank → new ≡ filled cursor 132 cell row → new ≡ part_erased part cursor row
  erased_to_the_end is_part is_blank is_new =
      part_filled cursor 132 is_blank is_new (λ k low high. to_the_end cursor k high ∙ ap (λ (n : ℕ). in_line_part n cursor k) (sym is_part))

  pub erased_from_the_start : part ≡ 1 → cell ≡ blank → new ≡ filled 1 cursor cell row → new ≡ part_erased part cursor row
  erased_from_the_start is_part is_blank is_new =
      part_filled 1 cursor is_blank is_new (λ k low high. from_the_start cursor k low ∙ ap (λ (n : ℕ). in_line_part n cursor k) (sym is_part))

  pub erased_all : part ≡ 2 → cell ≡ blank → new ≡ filled 1 132 cell row → new ≡ part_erased part cursor row
  erased_all is_part is_blank is_new =
      part_filled 1 132 is_blank is_new (λ k low high. all_columns k low high ∙ ap (λ (n : ℕ). in_line_part n cursor k) (sym is_part))

-- a fill from column 1, single width
pub filled_single : (row : Row) (cell : Cell) (to : ℕ) → (let r : Row = record { size = Single; cells = (filled 1 to cell row).cells } in r) ≡ filled_to cell to row
filled_single row cell to =
    row_is Single _ _ (table_ext 132 _ _ (λ k low high. ap (λ (b : Bool). if b then cell else cell_at row k) (from_the_start to k low)))

right_of : (margin k : ℕ) → k ≤ 132 → nat_le (margin + 1) k && nat_le k 132 ≡ nat_lt margin k
right_of margin k high = grind (arith, nat_tests)

-- a row that stays, and one that loses its cells right of the middle
pub resized_same : (row : Row) (wide : Bool) (size : Size) → length row.cells ≡ 132 → is_single row.size && not (is_single size) ≡ false → (let r : Row = record { size = size; cells = row.cells } in r) ≡ resized wide size row
resized_same row wide size whole stays =
    row_is size _ _ (table_is blank 132 row.cells whole ∙ table_ext 132 _ _ (λ k low high.
    ap (λ (b : Bool). if b && nat_lt (margin_of wide size) k then blank else cell_at row k) (sym stays)))

pub resized_cut : (row : Row) (wide : Bool) (size : Size) → is_single row.size && not (is_single size) ≡ true → (let r : Row = record { size = size; cells = (filled (margin_of wide size + 1) 132 blank row).cells } in r) ≡ resized wide size row
resized_cut row wide size cuts =
    row_is size _ _ (table_ext 132 _ _ (λ k low high.
    let right : nat_le (margin_of wide size + 1) k && nat_le k 132 ≡ nat_lt (margin_of wide size) k = right_of (margin_of wide size) k high in
    ap (λ (b : Bool). if b then blank else cell_at row k) right
    ∙ ap (λ (b : Bool). if b && nat_lt (margin_of wide size) k then blank else cell_at row k) (sym cuts)))

-- Lines that are changed one after another, from the first on.
pub changed_none : (change : Row → Row) (first : ℕ) (rows : List Row) → length rows ≡ 24 → rows ≡ lines_changed change first first rows
changed_none change first rows len = table_is blank_row 24 rows len ∙ table_ext 24 _ _ (λ k low high. grind (arith, nat_tests))

pub changed_more : (change : Row → Row) (first line : ℕ) (rows was now : List Row) → first ≤ line → 1 ≤ line
    → line ≤ 24 → was ≡ lines_changed change first line rows → now ≡ with_row line (change (row_at was line)) was
    → now ≡ lines_changed change first (line + 1) rows
changed_more change first line rows was now from low high before written =
    let f : ℕ → Row = λ k. if nat_le first k && nat_lt k line then change (row_at rows k) else row_at rows k in
    let here : row_at (lines_changed change first line rows) line ≡ row_at rows line = nth-table blank_row 24 f line low high ∙ not_yet first line (change (row_at rows line)) (row_at rows line) in
    written ∙ ap (λ (rs : List Row). with_row line (change (row_at rs line)) rs) before
    ∙ table_ext 24 _ _ (λ k klow khigh.
    let was = nth-table blank_row 24 f k klow khigh in
    let new = ap change here in
    elim (cases_eq k line) [
      | inl e ↦ let same = ap (λ (j : ℕ). change (row_at rows j)) e in grind (arith, nat_tests)
      | inr ne ↦ grind (arith, nat_tests)
    ])
  where
    not_yet : (first line : ℕ) (x y : Row) → (if nat_le first line && nat_lt line line then x else y) ≡ y
    not_yet first line x y = grind (arith, nat_tests)

-- a line alone
pub changed_one : (change : Row → Row) (line : ℕ) (rows : List Row)
    → with_row line (change (row_at rows line)) rows ≡ lines_changed change line (line + 1) rows
changed_one change line rows = table_ext 24 _ _ (λ k low high.
    elim (cases_eq k line) [
      | inl e ↦ let same = ap (λ (j : ℕ). change (row_at rows j)) e in grind (arith, nat_tests)
      | inr ne ↦ grind (arith, nat_tests)
    ])

-- Cells that were copied within a row, by column.
module _ (row : Row) (after : List Cell) (from margin : ℕ) (whole : length after ≡ 132) (low : 1 ≤ from) where
  -- one to the right
  pub right_copied : from ≤ margin → CopiedTo row.cells after (from - 1) from (margin - 1 - (from - 1)) → SameBelow row.cells after from → SameFrom row.cells after (from + (margin - 1 - (from - 1))) → (let r : Row = record { size = row.size; cells = after } in r) ≡ moved_right from margin row
  right_copied within copied below above = row_is row.size _ _ (is_table blank 132 after _ whole (λ k inside.
      let here = nth_next blank row.cells k in
      let before = nth_is blank row.cells (k + 1 - 1) in
      elim (cases_lt k from) [
        | inl left ↦ (let same = below k blank left in grind (arith, nat_tests))
        | inr from_on ↦ elim (cases_lt k margin) [
          | inl moved ↦ (let is = copied k blank from_on (omega arith) in
              let same : get_or row.cells (from - 1 + (k - from)) blank ≡ get_or row.cells (k + 1 - 1 - 1) blank = ap (λ (i : ℕ). get_or row.cells i blank) (omega arith) in
              grind (arith, nat_tests))
          | inr right ↦ (let same = above k blank (omega arith) in grind (arith, nat_tests))
        ]
      ]))

  -- n to the left, and blank cells where they came from
  pub left_copied : (n : ℕ) (cell : Cell) (new : Row) → from + n ≤ margin + 1 → margin ≤ 132 → cell ≡ blank
      → CopiedTo row.cells after (from + n - 1) (from - 1) (margin - (from + n - 1))
      → SameBelow row.cells after (from - 1) → SameFrom row.cells after (from - 1 + (margin - (from + n - 1)))
      → (let r : Row = record { size = row.size; cells = after } in new ≡ filled (margin + 1 - n) margin cell r) → new ≡ taken_out n from margin row
  left_copied n cell new room high is_blank copied below above is_new =
      is_new ∙ row_is row.size _ _ (table_ext 132 _ _ (λ column clow chigh.
      let here = nth_is blank row.cells column in
      let there = nth_is blank after column in
      let next = nth_is blank row.cells (column + n) in
      elim (cases_lt (column - 1) (from - 1)) [
        | inl left ↦ (let same = below (column - 1) blank left in grind (arith, nat_tests))
        | inr from_on ↦ elim (cases_lt margin column) [
          | inl right ↦ (let same = above (column - 1) blank (omega arith) in grind (arith, nat_tests))
          | inr within ↦ elim (cases_lt margin (column + n)) [
            | inl past ↦ grind (arith, nat_tests)
            | inr moved ↦ (let is = copied (column - 1) blank from_on (omega arith) in
                let same : get_or row.cells (from + n - 1 + (column - 1 - (from - 1))) blank ≡ get_or row.cells (column + n - 1) blank = ap (λ (i : ℕ). get_or row.cells i blank) (omega arith) in
                grind (arith, nat_tests))
          ]
        ]
      ]))

-- a count, or all cells up to the margin
pub taken_few : (row : Row) (n count from margin : ℕ) → from ≤ margin → count ≡ min n (margin + 1 - from)
    → taken_out count from margin row ≡ taken_out n from margin row
taken_few row n count from margin within few = row_is row.size _ _ (table_ext 132 _ _ (λ k low high. grind (arith, nat_tests)))
