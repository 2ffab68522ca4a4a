-- The text of a row, as it is read and as it is printed.
use Rattle.std.proofs.Common.{◌≡◌, ℕ, ◌≤◌, Bool, List, [], ◌∷◌, ◌++◌, length, take, refl, sym, ◌∙◌, arith}
use Rattle.std.specs.List.{flat_map}
use Rattle.std.proofs.lemmas.List.{length-map, length-take-le, take_all}
use Rattle.vt_screen.specs.declared.cell.Cell.{Cell}
use Rattle.vt_screen.specs.declared.cell.Row.{Row}
use Rattle.vt_screen.specs.Picture.{margin_of}
use Rattle.screen_rows.specs.Glyphs.{character}
use Rattle.screen_rows.specs.RowText.{printed, printed_line, row_text, trimmed}

pub row_text_len : (wide : Bool) (row : Row) (margin : ℕ) → margin ≡ margin_of wide row.size → margin ≤ 132
    → length row.cells ≡ 132 → length (row_text wide row) ≡ margin
row_text_len wide row margin at high whole =
    length-map (take (margin_of wide row.size) row.cells) (λ cell. character cell.glyph)
    ∙ length-take-le (margin_of wide row.size) row.cells (omega (arith, at)) ∙ sym at

-- what is printed of a line: all the cells that are left without the spaces at its end
pub printed_line_is : (wide : Bool) (row : Row) (margin n : ℕ) (cells : List Cell) (bytes : List ℕ) → margin ≡ margin_of wide row.size
    → cells ≡ trimmed (take margin row.cells) → length cells ≤ n → bytes ≡ flat_map printed (take n cells)
    → bytes ++ 10 ∷ [] ≡ printed_line wide row
unfolding printed_line
printed_line_is wide row margin n cells bytes at_margin left whole same =
    let all : take n cells ≡ cells = take_all n _ whole in
    rw (same, all, left, at_margin) refl
