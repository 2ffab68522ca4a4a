-- The glyphs that are drawn, since a font's own line drawing doesn't join: each has an outline, which is filled, in a
-- cell of 10 by 20 units (ours).
use Rattle.std.specs.Prelude.{ℕ, Bool, List, [], ◌∷◌, codes, length, nat_lt}
use Rattle.std.specs.Option.{unwrap_or}
use Rattle.vt_term.specs.Rows.{named}

-- the table: a glyph, and its outline in the words of an SVG path
unfoldable pub outlines : List (ℕ × List ℕ)
outlines =
    (1, codes "m5 5l4 5-4 5-4-5z") ∷  -- diamond
    (2, codes "m0 0h5v5h-5zm5 5h5v5h-5zm-5 5h5v5h-5zm5 5h5v5h-5z") ∷  -- checkerboard
    (11, codes "m0 9h4v-9h2v11h-6z") ∷  -- lower-right corner
    (12, codes "m0 9h6v11h-2v-9h-4z") ∷  -- upper-right corner
    (13, codes "m4 9h6v2h-4v9h-2z") ∷  -- upper-left corner
    (14, codes "m4 0h2v9h4v2h-6z") ∷  -- lower-left corner
    (15, codes "m4 0h2v9h4v2h-4v9h-2v-9h-4v-2h4z") ∷  -- crossing
    (16, codes "m0 1h10v2h-10z") ∷  -- scan 1
    (17, codes "m0 5h10v2h-10z") ∷  -- scan 3
    (18, codes "m0 9h10v2h-10z") ∷  -- scan 5
    (19, codes "m0 13h10v2h-10z") ∷  -- scan 7
    (20, codes "m0 17h10v2h-10z") ∷  -- scan 9
    (21, codes "m4 0h2v9h4v2h-4v9h-2z") ∷  -- left T
    (22, codes "m4 0h2v20h-2v-9h-4v-2h4z") ∷  -- right T
    (23, codes "m4 0h2v9h4v2h-10v-2h4z") ∷  -- bottom T
    (24, codes "m0 9h10v2h-4v9h-2v-9h-4z") ∷  -- top T
    (25, codes "m4 0h2v20h-2z") ∷  -- vertical bar
    []

-- the outline of a glyph, or nothing
unfoldable pub outline : ℕ → List ℕ
outline glyph = unwrap_or (named outlines glyph) []

-- whether a glyph is drawn: whether it has an outline
abbrev pub is_drawn : ℕ → Bool
is_drawn glyph = nat_lt 0 (length (outline glyph))
