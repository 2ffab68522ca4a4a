-- The characters that are drawn, since a font's own line drawing doesn't join: each has an outline, which is filled,
-- in a cell of 10 by 20 units (ours).
use Rattle.std.specs.Prelude.{ℕ, ◌/◌, Bool, List, [], ◌∷◌, length, nat_le, nat_lt, ◌==◌, ◌&&◌, ◌||◌, if◌then◌else◌}
use Rattle.xterm_rows.specs.OutlineTable.{block}

-- the outline of a character in a table, in the words of an SVG path; nothing where it has none
abbrev pub outline_in : List (ℕ × List ℕ) → ℕ → List ℕ
outline_in [] character = []
outline_in (row ∷ rest) character = if character == row.0 then row.1 else outline_in rest character

-- the outline of a character, which its block of sixteen has
unfoldable pub outline : ℕ → List ℕ
outline character = outline_in (block (character / 16)) character

-- a pattern of Braille (Unicode 21.1): eight dots, of which the bits above U+2800 tell those that are raised
abbrev pub is_braille : ℕ → Bool
is_braille character = nat_le 0x2800 character && nat_lt character 0x2900

-- the characters that have an outline, and patterns of Braille
unfoldable pub is_outlined : ℕ → Bool
is_outlined character = is_braille character || nat_lt 0 (length (outline character))
