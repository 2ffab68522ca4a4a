-- The text of a row (ours).
use Rattle.std.specs.Prelude.{ℕ, ◌-◌, Bool, List, [], ◌∷◌, ◌++◌, length, map, take, ◌==◌, ◌||◌, encode_utf8}
use Rattle.std.specs.List.{suffix_len, flat_map}
use Rattle.vt_screen.specs.declared.cell.Cell.{Cell}
use Rattle.vt_screen.specs.declared.cell.Row.{Row}
use Rattle.vt_screen.specs.Picture.{margin_of}
use Rattle.screen_rows.specs.Glyphs.{character}

-- the characters of cells
abbrev pub characters : List Cell → List ℕ
characters cells = map (λ cell. character cell.glyph) cells

-- the text of a row: its characters, one a cell, from column 1 to its right margin
abbrev pub row_text : Bool → Row → List ℕ
row_text wide row = map (λ cell. character cell.glyph) (take (margin_of wide row.size) row.cells)

-- a cell in UTF-8
abbrev pub printed : Cell → List ℕ
printed cell = encode_utf8 (character cell.glyph)

-- a space, or the blank of the special graphics, whatever its rendition
abbrev pub is_space : Cell → Bool
is_space cell = (cell.glyph == 0) || (cell.glyph == 32)

-- cells without the spaces at their end
abbrev pub trimmed : List Cell → List Cell
trimmed cells = take (length cells - suffix_len is_space cells) cells

-- a line to its right margin, and LF; on a double size each glyph stands once
unfoldable pub printed_line : Bool → Row → List ℕ
printed_line wide row =
    flat_map printed (trimmed (take (margin_of wide row.size) row.cells)) ++ 10 ∷ []
