-- Glyphs that stand for themselves in a string of JSON (RFC 8259 section 7), also within HTML.
use Rattle.std.specs.Prelude.{ℕ, ◌%◌, Bool, List, map, nat_le, nat_lt, not, ◌==◌, ◌&&◌}
use Rattle.vt_screen.specs.declared.cell.Cell.{Cell}

-- the glyphs of cells
abbrev pub glyphs_of : List Cell → List ℕ
glyphs_of cells = map (λ cell. cell.glyph) cells

-- private: the low bytes of numbers
abbrev pub low_bytes : List ℕ → List ℕ
low_bytes numbers = map (λ number. number % 256) numbers

-- a glyph that is a character of ASCII, but for those that a string has in another way
abbrev pub is_plain : ℕ → Bool
is_plain glyph =
    nat_le 32 glyph && nat_lt glyph 128 && not (glyph == 34) && not (glyph == 60) && not (glyph == 92)
