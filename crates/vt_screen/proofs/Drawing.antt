-- A picture that is drawn line by line and cell by cell.
use Rattle.std.proofs.Common.{◌≡◌, ℕ, ◌+◌, ◌-◌, ◌<◌, ◌≤◌, Bool, false, List, length, min, sym, ap, ap₂, inl, inr, ◌∙◌, arith}
use Rattle.std.specs.Prelude.{if◌then◌else◌, ◌&&◌, nat_le, nat_lt, not}
use Rattle.std.proofs.lemmas.Bool.{cases_eq, cases_lt}
use Rattle.std.proofs.lemmas.Bool.Decides.{nat_tests}
use Rattle.vt_screen.specs.declared.cell.Cell.{Cell}
use Rattle.vt_screen.specs.declared.cell.Row.{Row}
use Rattle.vt_screen.specs.declared.cell.Size.{Size}
use Rattle.vt_screen.specs.declared.cell.Size.TheVariants.{Single}
use Rattle.vt_screen.specs.Cells.{blank, blank_cells, blank_row, cell_at, row_at, rows_by, is_single}
use Rattle.vt_screen.specs.Drawn.{rows_to, cells_to, drawn_to}
use Rattle.vt_screen.specs.Lines.{resized, size_set}
use Rattle.vt_screen.specs.Moves.{placed}
use Rattle.vt_screen.specs.Picture.{Picture, right_margin, margin_of}
use Rattle.vt_screen.specs.Puts.{with_row, with_cell, shown}
use Rattle.vt_screen.proofs.Answers.{put_there, put_on}
use Rattle.vt_screen.proofs.Rows.{row_is, blank_whole}
use Rattle.vt_screen.proofs.Runs.{with_row_twice, with_row_same, shown_unwrapped}
use Rattle.vt_screen.proofs.Soundness.{row_put}
use Rattle.vt_screen.proofs.SoundRows.{blank_at, blank_either, margin_low}
use Rattle.vt_screen.proofs.Tables.{length-table, nth-table, table_ext, table_is}

-- no line, one line more, a line that is blank, all of them
pub no_rows : (rows : List Row) → rows_by (λ _. blank_row) ≡ rows_to 0 rows
no_rows rows = table_ext 24 _ _ (λ k low high. grind (arith, nat_tests))

pub one_row_more : (line : ℕ) (rows : List Row) → 1 ≤ line → with_row line (row_at rows line) (rows_to (line - 1) rows) ≡ rows_to line rows
one_row_more line rows some = table_ext 24 _ _ (λ k low high.
    let was = nth-table blank_row 24 (λ j. if nat_le j (line - 1) then row_at rows j else blank_row) k low high in
    elim (cases_eq k line) [ inl e ↦ (let same = ap (row_at rows) e in grind (arith, nat_tests)) | inr ne ↦ grind (arith, nat_tests) ])

pub one_blank_more : (line : ℕ) (rows : List Row) → 1 ≤ line → row_at rows line ≡ blank_row → rows_to (line - 1) rows ≡ rows_to line rows
one_blank_more line rows some is_blank = table_ext 24 _ _ (λ k low high.
    elim (cases_eq k line) [ inl e ↦ (let same = ap (row_at rows) e in grind (arith, nat_tests)) | inr ne ↦ grind (arith, nat_tests) ])

pub all_rows : (rows : List Row) → length rows ≡ 24 → rows_to 24 rows ≡ rows
all_rows rows whole = table_ext 24 _ _ (λ k low high. grind (arith, nat_tests)) ∙ sym (table_is blank_row 24 rows whole)

-- a line that isn't drawn yet
pub row_not_yet : (line : ℕ) (rows : List Row) → 1 ≤ line → line ≤ 24 → row_at (rows_to (line - 1) rows) line ≡ blank_row
row_not_yet line rows low high =
    let there = nth-table blank_row 24 (λ j. if nat_le j (line - 1) then row_at rows j else blank_row) line low high in
    grind (arith, nat_tests)

-- no cell, one cell more, all of them
not_of_none : (k : ℕ) → 1 ≤ k → (e : Cell) → blank ≡ (if nat_le k 0 then e else blank)
not_of_none k low e = grind (arith, nat_tests)

pub no_cells : (row : Row) → (let r : Row = record { size = row.size; cells = blank_cells } in r) ≡ cells_to 0 row
no_cells row = row_is row.size _ _ (table_is blank 132 blank_cells blank_whole ∙ table_ext 132 _ _ (λ k low high. blank_at k ∙ not_of_none k low (cell_at row k)))

pub one_cell_more : (column : ℕ) (row : Row) → 1 ≤ column → with_cell column (cell_at row column) (cells_to (column - 1) row) ≡ cells_to column row
one_cell_more column row some = row_is row.size _ _ (table_ext 132 _ _ (λ k low high.
    let was = nth-table blank 132 (λ j. if nat_le j (column - 1) then cell_at row j else blank) k low high in
    elim (cases_eq k column) [ inl e ↦ (let same = ap (cell_at row) e in grind (arith, nat_tests)) | inr ne ↦ grind (arith, nat_tests) ]))

pub all_cells : (column : ℕ) (row : Row) → length row.cells ≡ 132
    → ((k : ℕ) → column < k → k ≤ 132 → cell_at row k ≡ blank) → cells_to column row ≡ row
all_cells column row whole right = row_is row.size _ _ (table_ext 132 _ _ (λ k low high.
    elim (cases_lt column k) [ inl past ↦ (let b = right k past high in grind (arith, nat_tests)) | inr within ↦ grind (arith, nat_tests) ])
    ∙ sym (table_is blank 132 row.cells whole))

-- a line of which nothing is drawn: a single one, and one that takes its size
pub line_begun : (line : ℕ) (rows : List Row) → 1 ≤ line → line ≤ 24 → (row_at rows line).size ≡ Single
    → rows_to (line - 1) rows ≡ drawn_to line 0 rows
line_begun line rows low high single =
    let begun : blank_row ≡ cells_to 0 (row_at rows line) =
    ap (λ (size : Size). let r : Row = record { size = size; cells = blank_cells } in r) (sym single) ∙ no_cells (row_at rows line) in
    with_row_same line (rows_to (line - 1) rows) (length-table 24 _)
    ∙ ap (λ (r : Row). with_row line r (rows_to (line - 1) rows)) (row_not_yet line rows low high ∙ begun)

-- a line that is done
pub line_done : (line column : ℕ) (rows : List Row) → 1 ≤ line → length (row_at rows line).cells ≡ 132
    → ((k : ℕ) → column < k → k ≤ 132 → cell_at (row_at rows line) k ≡ blank)
    → drawn_to line column rows ≡ rows_to line rows
line_done line column rows some whole right =
    ap (λ (r : Row). with_row line r (rows_to (line - 1) rows)) (all_cells column (row_at rows line) whole right) ∙ one_row_more line rows some

-- to a line and a column of the screen
pub placed_there : (line column : ℕ) (p : Picture) → line ≤ 24 → column ≤ right_margin p line
    → placed line column false p ≡ record p { line = line; column = column; wrap = false }
placed_there line column p high within =
    ap (λ (k : ℕ). let q : Picture = record p { line = k; column = min column (right_margin p k); wrap = false } in q) (omega arith)
    ∙ ap (λ (k : ℕ). let q : Picture = record p { line = line; column = k; wrap = false } in q) (omega arith)

pub placed_at_left : (line : ℕ) (p : Picture) → line ≤ 24 → placed line 1 false p ≡ record p { line = line; column = 1; wrap = false }
placed_at_left line p high = placed_there line 1 p high (omega (arith, margin_low p.wide (row_at p.rows line).size))

-- a blank line takes a size
blank_resized : (wide : Bool) (size : Size) → resized wide size blank_row ≡ (let r : Row = record { size = size; cells = blank_cells } in r)
blank_resized wide size = row_is size _ _ (table_ext 132 _ _ (λ k low high.
    blank_either (is_single Single && not (is_single size) && nat_lt (margin_of wide size) k) (cell_at blank_row k) (blank_at k) ∙ sym (blank_at k))
    ∙ sym (table_is blank 132 blank_cells blank_whole))

ap₃' : (p : Picture) {rows others : List Row} {column other : ℕ} {wrap instead : Bool} → rows ≡ others → column ≡ other → wrap ≡ instead
    → (let q : Picture = record p { rows = rows; column = column; wrap = wrap } in q) ≡ record p { rows = others; column = other; wrap = instead }
ap₃' p a b c = cc

module _ (p : Picture) (rows : List Row) where
  -- the cursor's line takes its size
  pub size_drawn : 1 ≤ p.line → p.line ≤ 24 → p.column ≡ 1 → p.rows ≡ rows_to (p.line - 1) rows
      → size_set (row_at rows p.line).size p ≡ record p { rows = drawn_to p.line 0 rows; wrap = false }
  size_drawn low high at_left above =
      let size = (row_at rows p.line).size in
      let there : row_at p.rows p.line ≡ blank_row = ap (λ (rs : List Row). row_at rs p.line) above ∙ row_not_yet p.line rows low high in
      let row : resized p.wide size (row_at p.rows p.line) ≡ cells_to 0 (row_at rows p.line) =
      ap (resized p.wide size) there ∙ blank_resized p.wide size ∙ no_cells (row_at rows p.line) in
      let column : min p.column (margin_of p.wide size) ≡ p.column = omega (arith, margin_low p.wide size) in
      ap₂ (λ (rs : List Row) (k : ℕ). let q : Picture = record p { rows = rs; column = k; wrap = false } in q)
      (ap₂ (with_row p.line) row above) column

  -- the cell at the cursor is drawn
  pub cell_drawn : 1 ≤ p.line → p.line ≤ 24 → 1 ≤ p.column → p.column ≤ margin_of p.wide (row_at rows p.line).size
      → p.wrap ≡ false → p.rows ≡ drawn_to p.line (p.column - 1) rows
      → shown (cell_at (row_at rows p.line) p.column).glyph (cell_at (row_at rows p.line) p.column).rendition false p
      ≡ record p { rows = drawn_to p.line p.column rows; column = min (p.column + 1) (margin_of p.wide (row_at rows p.line).size) }
  cell_drawn low high column_low column_high unwrapped so_far =
      let row = row_at rows p.line in
      let there : row_at p.rows p.line ≡ cells_to (p.column - 1) row =
      ap (λ (rs : List Row). row_at rs p.line) so_far ∙ row_put p.line (cells_to (p.column - 1) row) (rows_to (p.line - 1) rows) low high in
      let margin : right_margin p p.line ≡ margin_of p.wide row.size = ap (λ (r : Row). margin_of p.wide r.size) there in
      let new : with_row p.line (with_cell p.column (cell_at row p.column) (row_at p.rows p.line)) p.rows ≡ drawn_to p.line p.column rows =
      ap₂ (λ (r : Row) (rs : List Row). with_row p.line (with_cell p.column (cell_at row p.column) r) rs) there so_far
      ∙ with_row_twice p.line (with_cell p.column (cell_at row p.column) (cells_to (p.column - 1) row)) (cells_to (p.column - 1) row) (rows_to (p.line - 1) rows)
      ∙ ap (λ (r : Row). with_row p.line r (rows_to (p.line - 1) rows)) (one_cell_more p.column row column_low) in
      shown_unwrapped (cell_at row p.column).rendition false (cell_at row p.column).glyph p unwrapped
      ∙ elim (cases_eq p.column (right_margin p p.line)) [
        | inl e ↦ sym (put_there p (cell_at row p.column) false e)
            ∙ ap₃' p new (omega arith) (sym unwrapped)
        | inr ne ↦ sym (put_on p (cell_at row p.column) false ne)
            ∙ ap₂ (λ (rs : List Row) (k : ℕ). let q : Picture = record p { rows = rs; column = k } in q) new (omega arith)
      ]
