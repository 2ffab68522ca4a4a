-- What comes directly behind home: of the characters put, the controls that act and the finished sequences before it the
-- last moved the cursor to a place, and that was line 1 column 1 (ours).
use Rattle.std.specs.Prelude.{ℕ, Bool, true, false, ◌&&◌, ◌==◌, List, Option, None, Some}
use Rattle.vt_parser.specs.declared.commands.Command.{Command}
use Rattle.vt_parser.specs.declared.commands.Command.TheVariants.{Csi}
use Rattle.vt_parser.specs.declared.syntax.Action.{Action}
use Rattle.vt_parser.specs.declared.syntax.Action.TheVariants.{Execute, Print, Join}
use Rattle.xterm_screen.specs.Picture.{Picture}
use Rattle.xterm_term.specs.Rows.{named}
use Rattle.xterm_term.specs.Sequences.{Sequence, Cup, sequences}
use Rattle.xterm_term.specs.Term.{is_ground}

-- What is done with a byte puts a character, executes a control or finishes a sequence, by what is pending then. BEL, CAN
-- and SUB do nothing, nor does what they or ESC cut.
abbrev pub acts : Action → List ℕ → Bool
acts Execute pending = true
acts Print pending = true
acts Join pending = is_ground pending
acts _ pending = false

abbrev pub is_cup : Option Sequence → Bool
is_cup (Some Cup) = true
is_cup _ = false

-- a command that moves the cursor to a place: CUP and HVP
abbrev pub places : Command → Bool
places (Csi false params last) = is_cup (named sequences last)
places _ = false

-- line 1 column 1
abbrev pub is_home : Picture → Bool
is_home p = p.line == 1 && p.column == 1

-- a byte that acts has left the cursor at home, by its command, if it gave one, and the picture after it
abbrev pub went_home : Option Command → Picture → Bool
went_home None p = false
went_home (Some command) p = places command && is_home p
