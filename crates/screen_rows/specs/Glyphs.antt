-- The characters that glyphs are printed as, by their numbers in Unicode.
use Rattle.std.specs.Prelude.{ℕ, List, [], ◌∷◌, nat_lt, slice_index, if◌then◌else◌}

-- glyphs 0 to 31: the special graphics (EK-VT100-UG chapter 3; the characters are ours)
abbrev pub special_graphics : List ℕ
special_graphics =
    0x20  -- 0 blank
    ∷ 0x25C6  -- 1 diamond
    ∷ 0x2592  -- 2 checkerboard
    ∷ 0x2409  -- 3 HT
    ∷ 0x240C  -- 4 FF
    ∷ 0x240D  -- 5 CR
    ∷ 0x240A  -- 6 LF
    ∷ 0x00B0  -- 7 degree
    ∷ 0x00B1  -- 8 plus/minus
    ∷ 0x2424  -- 9 NL
    ∷ 0x240B  -- 10 VT
    ∷ 0x2518  -- 11 lower-right corner
    ∷ 0x2510  -- 12 upper-right corner
    ∷ 0x250C  -- 13 upper-left corner
    ∷ 0x2514  -- 14 lower-left corner
    ∷ 0x253C  -- 15 crossing
    ∷ 0x23BA  -- 16 scan 1
    ∷ 0x23BB  -- 17 scan 3
    ∷ 0x2500  -- 18 scan 5
    ∷ 0x23BC  -- 19 scan 7
    ∷ 0x23BD  -- 20 scan 9
    ∷ 0x251C  -- 21 left T
    ∷ 0x2524  -- 22 right T
    ∷ 0x2534  -- 23 bottom T
    ∷ 0x252C  -- 24 top T
    ∷ 0x2502  -- 25 vertical bar
    ∷ 0x2264  -- 26 less or equal
    ∷ 0x2265  -- 27 greater or equal
    ∷ 0x03C0  -- 28 pi
    ∷ 0x2260  -- 29 not equal
    ∷ 0x00A3  -- 30 pound
    ∷ 0x00B7  -- 31 centred dot
    ∷ []

-- glyphs 32 to 126 are the characters of ASCII
abbrev pub character : ℕ → ℕ
character glyph = if nat_lt glyph 32 then slice_index special_graphics glyph else glyph
