-- What comes directly behind home: of the characters put, the controls that act and the finished sequences before it the
-- last moved the cursor to a place, and that was line 1 column 1 (ours).
use Rattle.std.specs.Prelude.{ℕ, Bool, true, false, ◌&&◌, ◌==◌, List, [], ◌∷◌, Option, None, Some}
use Rattle.vt_parser.specs.declared.commands.Command.{Command}
use Rattle.vt_parser.specs.declared.commands.Command.TheVariants.{Csi, Vt52, Vt52Address}
use Rattle.vt_parser.specs.declared.syntax.Action.{Action}
use Rattle.vt_parser.specs.declared.syntax.Action.TheVariants.{Ignore, Execute, Print, Mark, Begin, Join, End, Cancel}
use Rattle.vt_screen.specs.Picture.{Picture}
use Rattle.vt_term.specs.Rows.{named}
use Rattle.vt_term.specs.Sequences.{Sequence, Cup, sequences}
use Rattle.vt_term.specs.Vt52.{Vt52Sequence, Home, vt52_sequences}

-- nothing is pending
abbrev pub is_empty : List ℕ → Bool
is_empty [] = true
is_empty (byte ∷ rest) = false

-- What is done with a byte puts a character, executes a control or finishes a sequence, by what is pending then. BEL, CAN
-- and SUB on ground do nothing; CAN and SUB elsewhere put the error character.
abbrev pub acts : Action → List ℕ → Bool
acts Ignore pending = false
acts Execute pending = true
acts Print pending = true
acts Mark pending = true
acts Begin pending = false
acts Join pending = is_empty pending
acts End pending = false
acts Cancel pending = true

abbrev pub is_cup : Option Sequence → Bool
is_cup (Some Cup) = true
is_cup _ = false

abbrev pub is_vt52_home : Option Vt52Sequence → Bool
is_vt52_home (Some Home) = true
is_vt52_home _ = false

-- a command that moves the cursor to a place: CUP and HVP; in VT52 mode home and a direct cursor address
abbrev pub places : Command → Bool
places (Csi false params last) = is_cup (named sequences last)
places (Vt52 last) = is_vt52_home (named vt52_sequences last)
places (Vt52Address line column) = true
places _ = false

-- line 1 column 1
abbrev pub is_home : Picture → Bool
is_home p = p.line == 1 && p.column == 1

-- a byte that acts has left the cursor at home, by its command, if it gave one, and the picture after it
abbrev pub went_home : Option Command → Picture → Bool
went_home None p = false
went_home (Some command) p = places command && is_home p
