-- The text of a row of cells (ours).
use Rattle.std.specs.Prelude.{ℕ, ◌-◌, Bool, not, ◌==◌, ◌&&◌, List, [], ◌∷◌, ◌++◌, length, take, encode_utf8, if◌then◌else◌}
use Rattle.std.specs.List.{suffix_len, flat_map}
use Rattle.sheet.specs.Cells.{Cell, is_covered}

-- the characters of a cell: its character, and then its marks; a right half has none
unfoldable pub characters : Cell → List ℕ
characters cell = if is_covered cell then [] else cell.character ∷ cell.marks

-- a cell in UTF-8
unfoldable pub printed : Cell → List ℕ
printed cell = flat_map encode_utf8 (characters cell)

-- a space alone, whatever its rendition
unfoldable pub is_space : Cell → Bool
is_space cell = not (is_covered cell) && (cell.character == 32) && (length cell.marks == 0)

-- cells without the spaces at their end
abbrev pub trimmed : List Cell → List Cell
trimmed cells = take (length cells - suffix_len is_space cells) cells

-- a row without the spaces at its end, and LF
unfoldable pub printed_line : List Cell → List ℕ
printed_line row = flat_map printed (trimmed row) ++ 10 ∷ []
