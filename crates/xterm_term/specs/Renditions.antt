-- SGR (ECMA-48 8.3.117; colours of more than eight: xterm).
use Rattle.std.specs.Prelude.{ℕ, zero, suc, ◌-◌, Bool, true, false, ◌&&◌, ◌||◌, ◌==◌, nat_le, List, [], ◌∷◌, Option, Some, None, if◌then◌else◌}
use Rattle.sheet.specs.declared.rendition.Colour.{Colour}
use Rattle.sheet.specs.declared.rendition.Colour.TheVariants.{Default, Palette, Direct}
use Rattle.sheet.specs.declared.rendition.Rendition.{Rendition}
use Rattle.sheet.specs.Cells.{plain_on}

-- a parameter from low to high
abbrev pub is_within : ℕ → ℕ → ℕ → Bool
is_within low high param = nat_le low param && nat_le param high

-- 0 no rendition, 1 to 9 and 21 set an attribute, 22 to 29 take attributes off; others leave them
abbrev pub attribute_set : ℕ → Rendition → Rendition
attribute_set param r =
    if param == 0 then plain_on Default
    else (if param == 1 then record r { bold = true }
    else (if param == 2 then record r { faint = true }
    else (if param == 3 then record r { italic = true }
    else (if param == 4 || param == 21 then record r { underscore = true }
    else (if param == 5 || param == 6 then record r { blink = true }
    else (if param == 7 then record r { reverse = true }
    else (if param == 8 then record r { concealed = true }
    else (if param == 9 then record r { crossed_out = true }
    else r))))))))

abbrev pub attribute_taken : ℕ → Rendition → Rendition
attribute_taken param r =
    if param == 22 then record r { bold = false; faint = false }
    else (if param == 23 then record r { italic = false }
    else (if param == 24 then record r { underscore = false }
    else (if param == 25 then record r { blink = false }
    else (if param == 27 then record r { reverse = false }
    else (if param == 28 then record r { concealed = false }
    else (if param == 29 then record r { crossed_out = false }
    else r))))))

-- 30 to 37 and 90 to 97 the ink, 40 to 47 and 100 to 107 the paper by the numbers 0 to 15 of the palette; 39 and 49 the
-- default ones; others leave them
abbrev pub colour_set : ℕ → Rendition → Rendition
colour_set param r =
    if is_within 30 37 param then record r { ink = Palette (param - 30) }
    else (if param == 39 then record r { ink = Default }
    else (if is_within 40 47 param then record r { paper = Palette (param - 40) }
    else (if param == 49 then record r { paper = Default }
    else (if is_within 90 97 param then record r { ink = Palette (param - 82) }
    else (if is_within 100 107 param then record r { paper = Palette (param - 92) }
    else r)))))

-- one parameter by itself
unfoldable pub rendition_set : ℕ → Rendition → Rendition
rendition_set param r =
    if nat_le param 21 then attribute_set param r
    else (if nat_le param 29 then attribute_taken param r
    else colour_set param r)

-- 38 (ink), 48 (paper) and 58 (the underline's) tell a colour by the parameters that follow
abbrev pub tells_colour : ℕ → Bool
tells_colour param = param == 38 || param == 48 || param == 58

-- how many of those that follow they use up: behind 5 one more, behind 2 three more, of another kind that one alone
abbrev pub used_up : List ℕ → ℕ
used_up [] = 0
used_up (kind ∷ rest) = if kind == 5 then 2 else (if kind == 2 then 4 else 1)

-- a number of the palette
abbrev pub palette_colour : List ℕ → Option Colour
palette_colour [] = None
palette_colour (n ∷ rest) = if nat_le n 255 then Some (Palette n) else None

-- red, green and blue
abbrev pub direct_colour : List ℕ → Option Colour
direct_colour (red ∷ green ∷ blue ∷ rest) =
    if nat_le red 255 && nat_le green 255 && nat_le blue 255 then Some (Direct red green blue) else None
direct_colour _ = None

-- the colour that they tell, where all are there and small enough (ours, where xterm and tmux differ)
abbrev pub colour_told : List ℕ → Option Colour
colour_told [] = None
colour_told (kind ∷ rest) =
    if kind == 5 then palette_colour rest else (if kind == 2 then direct_colour rest else None)

-- it becomes the ink or the paper; the underline's has no effect
abbrev pub colour_taken : ℕ → Option Colour → Rendition → Rendition
colour_taken param None r = r
colour_taken param (Some colour) r =
    if param == 38 then record r { ink = colour }
    else (if param == 48 then record r { paper = colour }
    else r)

-- Parameters from left to right, of which the first ones are used up already.
unfoldable pub renditions_set : ℕ → List ℕ → Rendition → Rendition
renditions_set used [] r = r
renditions_set (suc used) (param ∷ rest) r = renditions_set used rest r
renditions_set zero (param ∷ rest) r =
    if tells_colour param
    then renditions_set (used_up rest) rest (colour_taken param (colour_told rest) r)
    else renditions_set 0 rest (rendition_set param r)
