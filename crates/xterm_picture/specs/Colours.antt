-- What a rendition is painted with.
use Rattle.std.specs.Prelude.{ℕ, ◌+◌, ◌*◌, Bool, nat_lt, ◌&&◌, ◌==◌, if◌then◌else◌}
use Rattle.sheet.specs.declared.rendition.Colour.{Colour}
use Rattle.sheet.specs.declared.rendition.Colour.TheVariants.{Default, Palette, Direct}
use Rattle.sheet.specs.declared.rendition.Rendition.{Rendition}
use Rattle.xterm_picture.specs.Palette.{palette, rgb}
use Rattle.xterm_picture.specs.declared.colours.Paint.{Paint}
use Rattle.xterm_picture.specs.declared.colours.Paint.TheVariants.{Ink, Back, Fill}

-- a colour, where this is the default (ours)
abbrev pub painted : Paint → Colour → Paint
painted default Default = default
painted default (Palette n) = Fill (palette n)
painted default (Direct red green blue) = Fill (rgb red green blue)

-- the first eight colours of the palette are bright where they are bold (xterm)
abbrev pub brightened : Bool → Colour → Colour
brightened bold Default = Default
brightened bold (Palette n) = Palette (if bold && nat_lt n 8 then n + 8 else n)
brightened bold (Direct red green blue) = Direct red green blue

-- the ink and the ground of a rendition before they are turned around
abbrev pub own_ink : Rendition → Paint
own_ink r = painted Ink (brightened r.bold r.ink)

abbrev pub own_ground : Rendition → Paint
own_ground r = painted Back r.paper

-- what its characters are painted with, and what they stand on (ECMA-48 8.3.117, SGR 7)
unfoldable pub ink_paint : Rendition → Paint
ink_paint r = if r.reverse then own_ground r else own_ink r

unfoldable pub ground_paint : Rendition → Paint
ground_paint r = if r.reverse then own_ink r else own_ground r

-- a paint by its number: 0 the screen's ink, 1 its ground, 2 and more red, green and blue (ours)
unfoldable pub paint_number : Paint → ℕ
paint_number Ink = 0
paint_number Back = 1
paint_number (Fill c) = 2 + (65536 * c.red + 256 * c.green + c.blue)

-- paints that are written alike
abbrev pub same_paint : Paint → Paint → Bool
same_paint one other = paint_number one == paint_number other
