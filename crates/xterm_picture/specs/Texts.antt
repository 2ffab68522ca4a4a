-- Characters as they stand in XML.
use Rattle.std.specs.Prelude.{ℕ, Bool, List, codes, encode_utf8, ◌==◌, ◌||◌, if◌then◌else◌}
use Rattle.std.specs.List.{flat_map}
use Rattle.sheet.specs.Cells.{Cell}
use Rattle.xterm_rows.specs.RowText.{characters}

-- U+FFFE and U+FFFF, which no XML may have (XML 1.0, section 2.2)
abbrev pub is_barred : ℕ → Bool
is_barred character = (character == 0xFFFE) || (character == 0xFFFF)

-- a character in XML; the replacement character stands for one that no XML may have (ours)
unfoldable pub character_text : ℕ → List ℕ
character_text character =
    if character == 38 then codes "&amp;"
    else (if character == 60 then codes "&lt;"
    else (if character == 62 then codes "&gt;"
    else encode_utf8 (if is_barred character then 0xFFFD else character)))

-- the character of a cell and its marks
unfoldable pub letter_text : Cell → List ℕ
letter_text cell = flat_map character_text (characters cell)
