-- The colours of what bytes come to.
use Rattle.std.proofs.Common.{◌^◌, ◌<◌, arith}
use Rattle.sheet.specs.declared.rendition.Colour.{Colour}
use Rattle.sheet.specs.declared.rendition.Colour.TheVariants.{Default, Palette, Direct}
use Rattle.xterm_rows.specs.Ink.{colour_number}
use Rattle.xterm_escaped.specs.Colours.{ColoursAreBytes}
use Rattle.xterm_escaped.proofs.Colours.{IsByteColour}
use Rattle.xterm_escaped.proofs.FittingTerms.{FitLaws, fit_played}

number_low : (colour : Colour) → IsByteColour colour → colour_number colour < 2 ^ 25
unfolding colour_number
number_low Default is = omega arith
number_low (Palette n) is = omega (arith, is)
number_low (Direct red green blue) is = omega (arith, is.0, is.1, is.2)

pub colours_played : FitLaws → ColoursAreBytes
colours_played laws = λ columns lines bytes line column.
    let colours = ((fit_played laws columns lines bytes).picture.rows.fit line).loose.cells column in
    record { ink = number_low _ colours.colours.ink; paper = number_low _ colours.colours.paper }
