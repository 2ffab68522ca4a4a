-- The escaped print cell by cell and line by line.
use Rattle.std.proofs.Common.{◌≡◌, ℕ, zero, suc, ◌+◌, ◌-◌, ◌≤◌, ◌<◌, List, [], ◌∷◌, ◌++◌, length, take, get_or, refl, sym, ◌∙◌, ap, append_assoc, append-nil, add-zero, arith}
use Rattle.std.proofs.lemmas.List.{take_more, take_all, length-take-le}
use Rattle.sheet.specs.declared.rendition.Rendition.{Rendition}
use Rattle.sheet.specs.Cells.{Cell}
use Rattle.sheet.specs.Grid.{row_at}
use Rattle.sheet.specs.Table.{nth}
use Rattle.xterm_escaped.specs.EscapedText.{cell_text, cells_text, rendition_after, line_text, lines_text, rendition_after_line, rendition_after_lines}

-- joined cells are written as their parts in turn
pub cells_text-append : (last : Rendition) (xs ys : List Cell)
    → cells_text last (xs ++ ys) ≡ cells_text last xs ++ cells_text (rendition_after last xs) ys
cells_text-append last [] ys = refl
cells_text-append last (x ∷ xs) ys =
    ap (λ t. cell_text last x ++ t) (cells_text-append x.rendition xs ys)
    ∙ sym (append_assoc (cell_text last x) (cells_text x.rendition xs) (cells_text (rendition_after x.rendition xs) ys))

pub rendition_after-append : (last : Rendition) (xs ys : List Cell) → rendition_after last (xs ++ ys) ≡ rendition_after (rendition_after last xs) ys
rendition_after-append last [] ys = refl
rendition_after-append last (x ∷ xs) ys = rendition_after-append x.rendition xs ys

-- one cell more
pub cells_text_more : (last : Rendition) (cells : List Cell) (n : ℕ) (d : Cell) → n < length cells
    → cells_text last (take (n + 1) cells) ≡ cells_text last (take n cells) ++ cell_text (rendition_after last (take n cells)) (get_or cells n d)
cells_text_more last cells n d within =
    ap (cells_text last) (take_more cells n d within)
    ∙ cells_text-append last (take n cells) (get_or cells n d ∷ [])
    ∙ ap (λ t. cells_text last (take n cells) ++ t) (append-nil (cell_text (rendition_after last (take n cells)) (get_or cells n d)))

pub rendition_after_more : (last : Rendition) (cells : List Cell) (n : ℕ) (d : Cell) → n < length cells
    → rendition_after last (take (n + 1) cells) ≡ (get_or cells n d).rendition
rendition_after_more last cells n d within =
    ap (rendition_after last) (take_more cells n d within) ∙ rendition_after-append last (take n cells) (get_or cells n d ∷ [])

-- ---- lines

-- joined lines are written as their parts in turn
pub lines_text-append : (last : Rendition) (line : ℕ) (xs ys : List (List Cell))
    → lines_text last line (xs ++ ys) ≡ lines_text last line xs ++ lines_text (rendition_after_lines last xs) (line + length xs) ys
unfolding lines_text rendition_after_lines
lines_text-append last line [] ys = ap (λ n. lines_text last n ys) (sym (add-zero line))
lines_text-append last line (x ∷ xs) ys =
    let next : line + 1 + length xs ≡ line + length (x ∷ xs) = omega arith in
    let after = rendition_after_line last x in
    ap (λ t. line_text last line x ++ t)
    (lines_text-append after (line + 1) xs ys ∙ ap (λ n. lines_text after (line + 1) xs ++ lines_text (rendition_after_lines after xs) n ys) next)
    ∙ sym (append_assoc (line_text last line x) (lines_text after (line + 1) xs) (lines_text (rendition_after_lines after xs) (line + length (x ∷ xs)) ys))

pub rendition_after_lines-append : (last : Rendition) (xs ys : List (List Cell))
    → rendition_after_lines last (xs ++ ys) ≡ rendition_after_lines (rendition_after_lines last xs) ys
unfolding rendition_after_lines
rendition_after_lines-append last [] ys = refl
rendition_after_lines-append last (x ∷ xs) ys = rendition_after_lines-append (rendition_after_line last x) xs ys

one_line_text : (last : Rendition) (line : ℕ) (row : List Cell) → lines_text last line (row ∷ []) ≡ line_text last line row
unfolding lines_text
one_line_text last line row = append-nil (line_text last line row)

one_line_rendition : (last : Rendition) (row : List Cell) → rendition_after_lines last (row ∷ []) ≡ rendition_after_line last row
unfolding rendition_after_lines
one_line_rendition last row = refl

-- the row of a line
row_is : (rows : List (List Cell)) (line : ℕ) → 1 ≤ line → row_at rows line ≡ get_or rows (line - 1) []
unfolding nth
row_is rows zero low = absurd (omega (arith, low))
row_is rows (suc k) low = let same : suc k - 1 ≡ k = omega arith in ap (λ n. get_or rows n []) (sym same)

taken_to : (rows : List (List Cell)) (line : ℕ) → 1 ≤ line → line ≤ length rows → take line rows ≡ take (line - 1) rows ++ row_at rows line ∷ []
taken_to rows line low high =
    let before : line - 1 < length rows = omega arith in
    let next : line - 1 + 1 ≡ line = omega arith in
    ap (λ n. take n rows) (sym next) ∙ take_more rows (line - 1) [] before
    ∙ ap (λ row. take (line - 1) rows ++ row ∷ []) (sym (row_is rows line low))

-- one line more
pub lines_text_more : (last : Rendition) (rows : List (List Cell)) (line : ℕ) → 1 ≤ line → line ≤ length rows
    → lines_text last 1 (take line rows)
    ≡ lines_text last 1 (take (line - 1) rows) ++ line_text (rendition_after_lines last (take (line - 1) rows)) line (row_at rows line)
lines_text_more last rows line low high =
    let before : line - 1 ≤ length rows = omega arith in
    let after = rendition_after_lines last (take (line - 1) rows) in
    let number : 1 + length (take (line - 1) rows) ≡ line = ap (λ n. 1 + n) (length-take-le (line - 1) rows before) ∙ omega arith in
    ap (lines_text last 1) (taken_to rows line low high)
    ∙ lines_text-append last 1 (take (line - 1) rows) (row_at rows line ∷ [])
    ∙ ap (λ t. lines_text last 1 (take (line - 1) rows) ++ t)
    (one_line_text after (1 + length (take (line - 1) rows)) (row_at rows line) ∙ ap (λ n. line_text after n (row_at rows line)) number)

pub rendition_after_lines_more : (last : Rendition) (rows : List (List Cell)) (line : ℕ) → 1 ≤ line → line ≤ length rows
    → rendition_after_lines last (take line rows) ≡ rendition_after_line (rendition_after_lines last (take (line - 1) rows)) (row_at rows line)
rendition_after_lines_more last rows line low high =
    ap (rendition_after_lines last) (taken_to rows line low high)
    ∙ rendition_after_lines-append last (take (line - 1) rows) (row_at rows line ∷ [])
    ∙ one_line_rendition (rendition_after_lines last (take (line - 1) rows)) (row_at rows line)

-- all lines
pub all_lines_text : (last : Rendition) (rows : List (List Cell)) (n : ℕ) → length rows ≤ n → lines_text last 1 (take n rows) ≡ lines_text last 1 rows
all_lines_text last rows n all = ap (lines_text last 1) (take_all n rows all)

-- no line
pub no_lines_text : (last : Rendition) (line : ℕ) → lines_text last line [] ≡ []
unfolding lines_text
no_lines_text last line = refl

pub no_lines_rendition : (last : Rendition) → rendition_after_lines last [] ≡ last
unfolding rendition_after_lines
no_lines_rendition last = refl
