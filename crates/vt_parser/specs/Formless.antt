-- Finished sequences that give no command, told by their form.
use Rattle.std.specs.Prelude.{◌≡◌, ℕ, if◌then◌else◌, List, [], ◌∷◌, ◌++◌, drop, Option, Some, None}
use Rattle.vt_parser.specs.declared.commands.Mode.{Mode}
use Rattle.vt_parser.specs.declared.commands.Mode.TheVariants.{Ansi, Vt52}
use Rattle.vt_parser.specs.declared.states.Formless.{Formless}
use Rattle.vt_parser.specs.declared.states.Formless.TheVariants.{Escape, ControlSequence}
use Rattle.vt_parser.specs.Forms.{front, final, is_control_sequence_begun, is_well_formed, is_whole}
use Rattle.vt_parser.specs.Step.{pending_after, mode_after}

-- an escape sequence with two or more intermediates
abbrev pub escape_formless : List ℕ → ℕ → Option Formless
escape_formless (inter ∷ next ∷ rest) last = Some (Escape last)
escape_formless _ last = None

-- a control sequence of which the text isn't well formed
abbrev pub control_sequence_formless : List ℕ → ℕ → Option Formless
control_sequence_formless text last = if is_well_formed text then None else Some (ControlSequence last)

-- of the bytes of a whole sequence; each one of VT52 mode gives a command
unfoldable pub formless : Mode → List ℕ → Option Formless
formless Ansi bytes =
    if is_control_sequence_begun (front bytes) then control_sequence_formless (drop 2 (front bytes)) (final bytes)
    else escape_formless (drop 1 (front bytes)) (final bytes)
formless Vt52 bytes = None

-- the one that a byte ends after these pending bytes, which are read in this mode
unfoldable pub formless_of : Mode → List ℕ → ℕ → Option Formless
formless_of mode pending byte =
    if is_whole mode (pending ++ byte ∷ []) then formless mode (pending ++ byte ∷ []) else None

-- none of the bytes but the first ends one
abbrev pub NoneEndsBehind : Mode → Mode → List ℕ → List ℕ → Type 0
NoneEndsBehind given mode pending [] = Unit {0}
NoneEndsBehind given mode pending (byte ∷ []) = Unit {0}
NoneEndsBehind given mode pending (byte ∷ next ∷ rest) =
    (formless_of (mode_after given mode byte) (pending_after mode pending byte) next ≡ None)
    × NoneEndsBehind given (mode_after given mode byte) (pending_after mode pending byte) (next ∷ rest)
