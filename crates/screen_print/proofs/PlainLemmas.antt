-- The plain print line by line.
use Rattle.std.proofs.Common.{◌≡◌, ℕ, ◌+◌, ◌-◌, ◌≤◌, ◌<◌, List, [], ◌∷◌, ◌++◌, length, take, get_or, sym, ◌∙◌, ap, append-nil, arith}
use Rattle.std.specs.List.{flat_map}
use Rattle.std.proofs.lemmas.List.{take_more, take_all}
use Rattle.std.proofs.lemmas.Grind.{flat_map-append}
use Rattle.vt_screen.specs.Cells.{blank_row, row_at}
use Rattle.vt_screen.specs.Picture.{Picture}
use Rattle.vt_screen.specs.Table.{nth}
use Rattle.screen_print.specs.PlainText.{plain_text}
use Rattle.screen_rows.specs.RowText.{printed_line}

-- the text of the first lines
abbrev pub first_lines : Picture → ℕ → List ℕ
first_lines p n = flat_map (printed_line p.wide) (take n p.rows)

-- one line more
pub first_lines_more : (p : Picture) (line : ℕ) → length p.rows ≡ 24 → 1 ≤ line → line ≤ 24
    → first_lines p line ≡ first_lines p (line - 1) ++ printed_line p.wide (row_at p.rows line)
unfolding nth
first_lines_more p line whole low high =
    let before : line - 1 < length p.rows = omega arith in
    let next : line - 1 + 1 ≡ line = omega arith in
    let more : take line p.rows ≡ take (line - 1) p.rows ++ get_or p.rows (line - 1) blank_row ∷ [] = ap (λ n. take n p.rows) (sym next) ∙ take_more p.rows (line - 1) blank_row before in
    ap (flat_map (printed_line p.wide)) more
    ∙ flat_map-append (printed_line p.wide) (take (line - 1) p.rows) (get_or p.rows (line - 1) blank_row ∷ [])
    ∙ ap (λ t. first_lines p (line - 1) ++ t) (append-nil (printed_line p.wide (get_or p.rows (line - 1) blank_row)))

-- all lines
pub all_lines : (p : Picture) → length p.rows ≡ 24 → first_lines p 24 ≡ plain_text p
unfolding plain_text
all_lines p whole = ap (flat_map (printed_line p.wide)) (ap (λ n. take n p.rows) (sym whole) ∙ take_all (length p.rows) p.rows (omega arith))
