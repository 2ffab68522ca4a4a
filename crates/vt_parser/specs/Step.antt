-- What one byte does to the pending bytes, and the command that it gives.
use Rattle.std.specs.Prelude.{ℕ, ◌==◌, if◌then◌else◌, List, [], ◌∷◌, ◌++◌, Option, Some, None}
use Rattle.vt_parser.specs.declared.commands.Mode.{Mode}
use Rattle.vt_parser.specs.declared.commands.Mode.TheVariants.{Ansi, Vt52}
use Rattle.vt_parser.specs.declared.commands.Command.{Command}
use Rattle.vt_parser.specs.declared.commands.Command.TheVariants.{Show, Error, Control}
use Rattle.vt_parser.specs.declared.syntax.Context.{Context}
use Rattle.vt_parser.specs.declared.syntax.Context.TheVariants.{Ground, Sequence, Text}
use Rattle.vt_parser.specs.declared.syntax.Action.{Action}
use Rattle.vt_parser.specs.declared.syntax.Action.TheVariants.{Ignore, Execute, Print, Mark, Begin, Join, End, Cancel}
use Rattle.vt_parser.specs.Syntax.{escape, is_within, action_of}
use Rattle.vt_parser.specs.Forms.{is_string_begun, is_whole, meaning}

-- the column of the table for these pending bytes
unfoldable pub context_of : Mode → List ℕ → Context
context_of Ansi [] = Ground
context_of Vt52 [] = Ground
context_of Ansi (byte ∷ rest) = if is_string_begun (byte ∷ rest) then Text else Sequence
context_of Vt52 (byte ∷ rest) = Sequence

-- BS, HT, LF, VT, FF, CR, SO and SI are commands; the other control characters have no effect on any state (EK-VT100-UG
-- chapter 3)
abbrev pub control_of : ℕ → Option Command
control_of byte = if is_within 8 15 byte then Some (Control byte) else None

-- the command that an action gives
abbrev pub command_by : Action → Mode → List ℕ → ℕ → Option Command
command_by Ignore mode pending byte = None
command_by Execute mode pending byte = control_of byte
command_by Print mode pending byte = Some (Show byte)
command_by Mark mode pending byte = Some Error
command_by Begin mode pending byte = None
command_by Join mode pending byte =
    if is_whole mode (pending ++ byte ∷ []) then meaning mode (pending ++ byte ∷ []) else None
command_by End mode pending byte = None
command_by Cancel mode pending byte = Some Error

-- the bytes that are pending after an action
abbrev pub pending_by : Action → Mode → List ℕ → ℕ → List ℕ
pending_by Ignore mode pending byte = pending
pending_by Execute mode pending byte = pending
pending_by Print mode pending byte = pending
pending_by Mark mode pending byte = pending
pending_by Begin mode pending byte = escape ∷ []
pending_by Join mode pending byte =
    if is_whole mode (pending ++ byte ∷ []) then [] else pending ++ byte ∷ []
pending_by End mode pending byte = []
pending_by Cancel mode pending byte = []

-- the command that a byte gives after these pending bytes, which are read in this mode
unfoldable pub command_of : Mode → List ℕ → ℕ → Option Command
command_of mode pending byte = command_by (action_of (context_of mode pending) byte) mode pending byte

-- the bytes that are pending after that byte
unfoldable pub pending_after : Mode → List ℕ → ℕ → List ℕ
pending_after mode pending byte = pending_by (action_of (context_of mode pending) byte) mode pending byte

-- The mode in which the pending bytes after a byte are read: the mode at the ESC decides, and an ESC takes the mode
-- that is given with it.
abbrev pub mode_after : Mode → Mode → ℕ → Mode
mode_after given mode byte = if byte == escape then given else mode
