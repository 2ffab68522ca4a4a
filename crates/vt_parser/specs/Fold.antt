-- What many bytes do, one after another: the folds of what one byte does.
use Rattle.std.specs.Prelude.{◌≡◌, ◌≢◌, ℕ, List, [], ◌∷◌, Option, None}
use Rattle.vt_parser.specs.declared.commands.Mode.{Mode}
use Rattle.vt_parser.specs.declared.commands.Mode.TheVariants.{Ansi}
use Rattle.vt_parser.specs.declared.commands.Command.{Command}
use Rattle.vt_parser.specs.Step.{command_of, pending_after, mode_after}

-- the mode in which what is pending after the bytes is read
abbrev pub mode_after_bytes : Mode → Mode → List ℕ → Mode
mode_after_bytes given mode [] = mode
mode_after_bytes given mode (byte ∷ rest) = mode_after_bytes given (mode_after given mode byte) rest

-- what is pending after the bytes
abbrev pub pending_after_bytes : Mode → Mode → List ℕ → List ℕ → List ℕ
pending_after_bytes given mode pending [] = pending
pending_after_bytes given mode pending (byte ∷ rest) =
    pending_after_bytes given (mode_after given mode byte) (pending_after mode pending byte) rest

-- this command, or none, comes with the last of the bytes, and no command before it
abbrev pub Gives : Mode → Mode → List ℕ → List ℕ → Option Command → Type 0
Gives given mode pending [] command = command ≡ None
Gives given mode pending (byte ∷ []) command = command_of mode pending byte ≡ command
Gives given mode pending (byte ∷ next ∷ rest) command =
    (command_of mode pending byte ≡ None)
    × Gives given (mode_after given mode byte) (pending_after mode pending byte) (next ∷ rest) command

-- fed where nothing is pending, the bytes give this command with the last of them, and leave nothing pending
abbrev pub Finishes : Mode → List ℕ → Option Command → Type 0
Finishes given bytes command =
    (mode : Mode) → Gives given mode [] bytes command × (pending_after_bytes given mode [] bytes ≡ [])

-- in ANSI mode none of these bytes gives a command, and behind each of them a sequence is pending
abbrev pub Waits : List ℕ → List ℕ → Type 0
Waits pending [] = Unit {0}
Waits pending (byte ∷ rest) =
    (command_of Ansi pending byte ≡ None) × (pending_after Ansi pending byte ≢ [])
    × Waits (pending_after Ansi pending byte) rest
