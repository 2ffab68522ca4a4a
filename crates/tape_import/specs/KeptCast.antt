-- Private: what holds of an asciicast that is read.
use Rattle.std.specs.Prelude.{ℕ, ◌≤◌, IfSome}
use Rattle.tape_import.specs.Kept.{IsSize}
use Rattle.tape_import.specs.declared.asciicast.Cast.{Cast}
use Rattle.tape_import.specs.declared.event.What.{What}
use Rattle.tape_import.specs.declared.event.What.TheVariants as what

-- The counts of events that are left out are at most a number.
pub record IsCounted (most : ℕ) (cast : Cast) : Type 0 where
  pub inputs : cast.others.inputs ≤ most
  pub markers : cast.others.markers ≤ most
  pub resizes : cast.others.resizes ≤ most
  pub others : cast.others.others ≤ most

-- Its sizes can be told.
pub record HasSizes (cast : Cast) : Type 0 where
  pub told : IfSome cast.told IsSize

-- So can the size that an event tells.
abbrev pub IsSized : What → Type 0
IsSized (what.Output bytes) = Unit {0}
IsSized (what.Resize size) = IfSome size IsSize
IsSized what.Input = Unit {0}
IsSized what.Marker = Unit {0}
IsSized what.Other = Unit {0}
