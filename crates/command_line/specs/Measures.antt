-- Which sizes a terminal of today can have.
use Rattle.std.specs.Prelude.{Bool, ◌&&◌, nat_le, if◌then◌else◌, Option, Some, None}
use Rattle.command_line.specs.declared.player.Measure.{Measure}

-- within the limits of a screen: 2 to 1,000 columns and 1 to 500 lines (ours)
abbrev pub is_size : Measure → Bool
is_size m = (nat_le 2 m.columns && nat_le m.columns 1000) && (nat_le 1 m.lines && nat_le m.lines 500)

abbrev pub within_of : Measure → Option Measure
within_of m = if is_size m then Some m else None
