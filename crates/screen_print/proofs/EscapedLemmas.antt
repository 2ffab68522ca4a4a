-- The escaped print cell by cell and line by line.
use Rattle.std.proofs.Common.{◌≡◌, ℕ, ◌+◌, ◌-◌, ◌≤◌, ◌<◌, true, false, List, [], ◌∷◌, ◌++◌, length, take, drop, get_or, refl, sym, ◌∙◌, ap, append_assoc, append-nil, add-zero, arith}
use Rattle.std.proofs.lemmas.List.{take_more, take-append-drop, take_all, length-take-le}
use Rattle.std.proofs.lemmas.Bool.Decides.{nat_tests}
use Rattle.vt_screen.specs.declared.cell.Cell.{Cell}
use Rattle.vt_screen.specs.declared.cell.Row.{Row}
use Rattle.vt_screen.specs.declared.cell.Size.{Size}
use Rattle.vt_screen.specs.Cells.{blank_row, row_at}
use Rattle.vt_screen.specs.Table.{nth}
use Rattle.screen_print.specs.declared.escaped_print.Pen.{Pen}
use Rattle.screen_print.specs.EscapedText.{cell_text, pen_of, cells_text, pen_after, is_left_out, placed_text, size_text, line_text, pen_after_line, lines_text, pen_after_lines}
use Rattle.screen_rows.specs.Ink.{inked}

-- joined cells are written as their parts in turn
pub cells_text-append : (pen : Pen) (xs ys : List Cell) → cells_text pen (xs ++ ys) ≡ cells_text pen xs ++ cells_text (pen_after pen xs) ys
cells_text-append pen [] ys = refl
cells_text-append pen (x ∷ xs) ys =
    ap (λ t. cell_text pen x ++ t) (cells_text-append (pen_of x) xs ys)
    ∙ sym (append_assoc (cell_text pen x) (cells_text (pen_of x) xs) (cells_text (pen_after (pen_of x) xs) ys))

pub pen_after-append : (pen : Pen) (xs ys : List Cell) → pen_after pen (xs ++ ys) ≡ pen_after (pen_after pen xs) ys
pen_after-append pen [] ys = refl
pen_after-append pen (x ∷ xs) ys = pen_after-append (pen_of x) xs ys

-- one cell more
pub cells_text_more : (pen : Pen) (cells : List Cell) (n : ℕ) (d : Cell) → n < length cells
    → cells_text pen (take (n + 1) cells)
    ≡ cells_text pen (take n cells) ++ cell_text (pen_after pen (take n cells)) (get_or cells n d)
cells_text_more pen cells n d within =
    ap (cells_text pen) (take_more cells n d within)
    ∙ cells_text-append pen (take n cells) (get_or cells n d ∷ [])
    ∙ ap (λ t. cells_text pen (take n cells) ++ t) (append-nil (cell_text (pen_after pen (take n cells)) (get_or cells n d)))

pub pen_after_more : (pen : Pen) (cells : List Cell) (n : ℕ) (d : Cell) → n < length cells
    → pen_after pen (take (n + 1) cells) ≡ pen_of (get_or cells n d)
pen_after_more pen cells n d within =
    ap (pen_after pen) (take_more cells n d within)
    ∙ pen_after-append pen (take n cells) (get_or cells n d ∷ [])

-- ---- a line

-- a line of which nothing is written
pub none_inked : (size : Size) (cells : List Cell) → is_left_out size cells ≡ true → cells ≡ []
none_inked size [] out = refl
none_inked size (cell ∷ cells) out = absurd (grind (arith, nat_tests))

pub left_out_text : (pen : Pen) (line : ℕ) (row : Row) → is_left_out row.size (inked row.cells) ≡ true → line_text pen line row ≡ []
unfolding line_text
left_out_text pen line row out = rw out refl

pub left_out_pen : (pen : Pen) (row : Row) → is_left_out row.size (inked row.cells) ≡ true → pen_after_line pen row ≡ pen
unfolding pen_after_line
left_out_pen pen row out = ap (pen_after pen) (none_inked row.size (inked row.cells) out)

pub written_text : (pen : Pen) (line : ℕ) (row : Row) → is_left_out row.size (inked row.cells) ≡ false
    → line_text pen line row ≡ placed_text line 1 ++ size_text row.size ++ cells_text pen (inked row.cells)
unfolding line_text
written_text pen line row written = rw written refl

-- ---- lines

-- joined lines are written as their parts in turn
pub lines_text-append : (pen : Pen) (line : ℕ) (xs ys : List Row)
    → lines_text pen line (xs ++ ys)
    ≡ lines_text pen line xs ++ lines_text (pen_after_lines pen xs) (line + length xs) ys
unfolding lines_text pen_after_lines
lines_text-append pen line [] ys = ap (λ n. lines_text pen n ys) (sym (add-zero line))
lines_text-append pen line (x ∷ xs) ys =
    let next : line + 1 + length xs ≡ line + length (x ∷ xs) = omega arith in
    ap (λ t. line_text pen line x ++ t) (lines_text-append (pen_after_line pen x) (line + 1) xs ys ∙ ap (λ n. lines_text (pen_after_line pen x) (line + 1) xs ++ lines_text (pen_after_lines (pen_after_line pen x) xs) n ys) next)
    ∙ sym (append_assoc (line_text pen line x) (lines_text (pen_after_line pen x) (line + 1) xs) (lines_text (pen_after_lines (pen_after_line pen x) xs) (line + length (x ∷ xs)) ys))

pub pen_after_lines-append : (pen : Pen) (xs ys : List Row) → pen_after_lines pen (xs ++ ys) ≡ pen_after_lines (pen_after_lines pen xs) ys
unfolding pen_after_lines
pen_after_lines-append pen [] ys = refl
pen_after_lines-append pen (x ∷ xs) ys = pen_after_lines-append (pen_after_line pen x) xs ys

one_line_text : (pen : Pen) (line : ℕ) (row : Row) → lines_text pen line (row ∷ []) ≡ line_text pen line row
unfolding lines_text
one_line_text pen line row = append-nil (line_text pen line row)

one_line_pen : (pen : Pen) (row : Row) → pen_after_lines pen (row ∷ []) ≡ pen_after_line pen row
unfolding pen_after_lines
one_line_pen pen row = refl

taken_to : (rows : List Row) (line : ℕ) → 1 ≤ line → line ≤ length rows → take line rows ≡ take (line - 1) rows ++ row_at rows line ∷ []
unfolding nth
taken_to rows line low high =
    let before : line - 1 < length rows = omega arith in
    let next : line - 1 + 1 ≡ line = omega arith in
    ap (λ n. take n rows) (sym next) ∙ take_more rows (line - 1) blank_row before

-- one line more
pub lines_text_more : (pen : Pen) (rows : List Row) (line : ℕ) → 1 ≤ line → line ≤ length rows
    → lines_text pen 1 (take line rows)
    ≡ lines_text pen 1 (take (line - 1) rows) ++ line_text (pen_after_lines pen (take (line - 1) rows)) line (row_at rows line)
lines_text_more pen rows line low high =
    let before : line - 1 ≤ length rows = omega arith in
    let number : 1 + length (take (line - 1) rows) ≡ line = ap (λ n. 1 + n) (length-take-le (line - 1) rows before) ∙ omega arith in
    ap (lines_text pen 1) (taken_to rows line low high)
    ∙ lines_text-append pen 1 (take (line - 1) rows) (row_at rows line ∷ [])
    ∙ ap (λ t. lines_text pen 1 (take (line - 1) rows) ++ t)
    (one_line_text (pen_after_lines pen (take (line - 1) rows)) (1 + length (take (line - 1) rows)) (row_at rows line)
    ∙ ap (λ n. line_text (pen_after_lines pen (take (line - 1) rows)) n (row_at rows line)) number)

pub pen_after_lines_more : (pen : Pen) (rows : List Row) (line : ℕ) → 1 ≤ line → line ≤ length rows
    → pen_after_lines pen (take line rows)
    ≡ pen_after_line (pen_after_lines pen (take (line - 1) rows)) (row_at rows line)
pen_after_lines_more pen rows line low high =
    ap (pen_after_lines pen) (taken_to rows line low high)
    ∙ pen_after_lines-append pen (take (line - 1) rows) (row_at rows line ∷ [])
    ∙ one_line_pen (pen_after_lines pen (take (line - 1) rows)) (row_at rows line)

-- the lines after a line
pub lines_text_around : (pen : Pen) (rows : List Row) (line : ℕ) → 1 ≤ line → line ≤ length rows
    → (rest : List ℕ) × (lines_text pen 1 rows ≡ lines_text pen 1 (take (line - 1) rows) ++ line_text (pen_after_lines pen (take (line - 1) rows)) line (row_at rows line) ++ rest)
lines_text_around pen rows line low high =
    let rest = lines_text (pen_after_lines pen (take line rows)) (1 + length (take line rows)) (drop line rows) in (
      rest,
      ap (lines_text pen 1) (sym (take-append-drop line rows))
          ∙ lines_text-append pen 1 (take line rows) (drop line rows)
          ∙ ap (λ t. t ++ rest) (lines_text_more pen rows line low high),
    )

-- all lines
pub all_lines_text : (pen : Pen) (rows : List Row) → length rows ≡ 24 → lines_text pen 1 (take 24 rows) ≡ lines_text pen 1 rows
all_lines_text pen rows whole = ap (lines_text pen 1) (ap (λ n. take n rows) (sym whole) ∙ take_all (length rows) rows (omega arith))

-- no line
pub no_lines_text : (pen : Pen) (line : ℕ) → lines_text pen line [] ≡ []
unfolding lines_text
no_lines_text pen line = refl

pub no_lines_pen : (pen : Pen) → pen_after_lines pen [] ≡ pen
unfolding pen_after_lines
no_lines_pen pen = refl
