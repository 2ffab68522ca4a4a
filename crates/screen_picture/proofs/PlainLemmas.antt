-- The plain print as it stands in XML, line by line.
use Rattle.std.proofs.Common.{◌≡◌, ℕ, ◌+◌, ◌-◌, Bool, List, [], ◌∷◌, ◌++◌, ap, sym, refl, ◌∙◌, length, get_or, take, arith}
use Rattle.std.specs.List.{flat_map, range_with_len}
use Rattle.std.proofs.lemmas.List.Concat.{flat_map-append}
use Rattle.std.proofs.lemmas.List.Folds.{flat_map-map}
use Rattle.std.proofs.lemmas.List.FromFn.{fill_by_all}
use Rattle.vt_screen.specs.declared.cell.Row.{Row}
use Rattle.vt_screen.specs.Cells.{blank_row, row_at}
use Rattle.vt_screen.specs.Picture.{Picture, margin_of}
use Rattle.vt_screen.specs.Table.{nth}
use Rattle.screen_rows.specs.RowText.{printed, printed_line, trimmed}
use Rattle.screen_picture.specs.Letters.{escaped, escaped_byte, letter_text}
use Rattle.screen_picture.specs.Picture.{printed_text}
use Rattle.screen_picture.proofs.LineLemmas.{first_lines}

-- a line of the plain print as it stands in XML
abbrev pub escaped_line : Picture → ℕ → List ℕ
escaped_line p line = escaped (printed_line p.wide (row_at p.rows line))

-- texts in texts
joined_twice : {X : Type 0} (f : ℕ → List ℕ) (g : X → List ℕ) (xs : List X) → flat_map f (flat_map g xs) ≡ flat_map (λ x. flat_map f (g x)) xs
joined_twice f g [] = refl
joined_twice f g (x ∷ xs) = flat_map-append f (g x) (flat_map g xs) ∙ ap (λ t. flat_map f (g x) ++ t) (joined_twice f g xs)

-- the characters of a line, and LF
pub line_is : (wide : Bool) (row : Row) (margin : ℕ) → margin ≡ margin_of wide row.size
    → flat_map letter_text (trimmed (take margin row.cells)) ++ 10 ∷ [] ≡ escaped (printed_line wide row)
unfolding printed_line
line_is wide row margin at =
    let cells = trimmed (take (margin_of wide row.size) row.cells) in
    ap (λ m. flat_map letter_text (trimmed (take m row.cells)) ++ 10 ∷ []) at
    ∙ sym (flat_map-append escaped_byte (flat_map printed cells) (10 ∷ []) ∙ ap (λ t. t ++ 10 ∷ []) (joined_twice escaped_byte printed cells))

-- the rows are those of lines 1 to 24
row_is : (rows : List Row) (k : ℕ) → get_or rows k blank_row ≡ row_at rows (k + 1)
unfolding nth
row_is rows k = ap (λ (i : ℕ). get_or rows i blank_row) (omega arith)

by_rows : (f : Row → List ℕ) (rows : List Row) → length rows ≡ 24 → flat_map f rows ≡ first_lines (λ line. f (row_at rows line)) 24
by_rows f rows whole =
    ap (flat_map f) (fill_by_all (λ k. row_at rows (k + 1)) rows 24 blank_row whole (λ k within. row_is rows k))
    ∙ flat_map-map f (λ k. row_at rows (k + 1)) (range_with_len 0 24)

-- all lines
pub plain_is : (p : Picture) → length p.rows ≡ 24 → first_lines (escaped_line p) 24 ≡ escaped (printed_text p.wide p.rows)
plain_is p whole =
    sym (by_rows (λ row. escaped (printed_line p.wide row)) p.rows whole)
    ∙ sym (joined_twice escaped_byte (printed_line p.wide) p.rows)
