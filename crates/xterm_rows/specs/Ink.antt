-- Cells that aren't blank.
use Rattle.std.specs.Prelude.{ℕ, ◌+◌, ◌-◌, ◌*◌, Bool, List, length, take, ◌==◌, ◌&&◌, if◌then◌else◌}
use Rattle.std.specs.List.{suffix_len}
use Rattle.sheet.specs.declared.rendition.Colour.{Colour}
use Rattle.sheet.specs.declared.rendition.Colour.TheVariants.{Default, Palette, Direct}
use Rattle.sheet.specs.declared.rendition.Rendition.{Rendition}
use Rattle.sheet.specs.Cells.{Cell}
use Rattle.xterm_rows.specs.RowText.{is_space}

-- a colour by its number: 0 is the default, 1 + n number n of the palette, 257 and more red, green and blue (ours)
unfoldable pub colour_number : Colour → ℕ
colour_number Default = 0
colour_number (Palette n) = 1 + n
colour_number (Direct red green blue) = 257 + (65536 * red + 256 * green + blue)

-- what a truth value adds to a number
abbrev pub bit : Bool → ℕ
bit b = if b then 1 else 0

-- the attributes of a rendition by their number: 1 bold, 2 underscore, 4 blink, 8 reverse, 32 faint, 64 italic, 128
-- concealed, 256 crossed out (ours)
unfoldable pub attribute_number : Rendition → ℕ
attribute_number r =
    bit r.bold + 2 * bit r.underscore + 4 * bit r.blink + 8 * bit r.reverse
    + 32 * bit r.faint + 64 * bit r.italic + 128 * bit r.concealed + 256 * bit r.crossed_out

-- no attribute and the default colours (ECMA-48 8.3.117, SGR 0)
abbrev pub is_plain : Rendition → Bool
is_plain r = (attribute_number r == 0) && (colour_number r.ink == 0) && (colour_number r.paper == 0)

-- a space alone without rendition
abbrev pub is_blank : Cell → Bool
is_blank cell = is_space cell && is_plain cell.rendition

-- cells to the last one that isn't blank
unfoldable pub inked : List Cell → List Cell
inked cells = take (length cells - suffix_len is_blank cells) cells
