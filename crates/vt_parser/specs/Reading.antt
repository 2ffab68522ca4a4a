-- Private: what the code reads of many bytes, on states.
use Rattle.std.specs.Prelude.{◌≡◌, ℕ, ◌-◌, ◌≤◌, ◌<◌, List, [], ◌∷◌, ◌++◌, take, length, slice_index, Option, Some, None}
use Rattle.arrayvec.specs.ArrayVec.{ArrayVec}
use Rattle.vt_parser.specs.declared.commands.Mode.{Mode}
use Rattle.vt_parser.specs.declared.commands.Command.{Command}
use Rattle.vt_parser.specs.declared.commands.Command.TheVariants as command
use Rattle.vt_parser.specs.declared.commands.Event.{Event}
use Rattle.vt_parser.specs.declared.commands.Event.TheVariants.{Error, Control, Esc, Csi, Vt52, Vt52Address}
use Rattle.vt_parser.specs.declared.commands.Token.{Token}
use Rattle.vt_parser.specs.declared.control_sequence.Collected.{Collected}
use Rattle.vt_parser.specs.declared.states.ParserState.{ParserState}
use Rattle.vt_parser.specs.declared.states.ParserState.TheVariants.{CsiStart, Csi as CsiState}
use Rattle.vt_parser.specs.Syntax.{escape}
use Rattle.vt_parser.specs.Forms.{bracket, most_params, held}
use Rattle.vt_parser.specs.Token.{command_of_token}
use Rattle.vt_parser.specs.Machine.{Transition, moves_to, Arrives}

-- ---- states

-- how many parameters a text has that is read: one at least, and none past those that count
abbrev pub HasParams : ParserState → Type 0
HasParams (CsiState private params over) = (0 < length params.items) × (length params.items ≤ most_params)
HasParams _ = Unit {0}

-- the text of a control sequence is read
abbrev pub IsCollecting : ParserState → Type 0
IsCollecting CsiStart = Unit {0}
IsCollecting (CsiState private params over) = Unit {0}
IsCollecting _ = ⊥

-- ---- the text of a control sequence

-- ESC `[` and what follows
pub record IsOpening (bytes : List ℕ) : Type 0 where
  pub long : 1 < length bytes
  pub first : slice_index bytes 0 ≡ escape
  pub second : slice_index bytes 1 ≡ bracket

abbrev pub IsCounted : Collected → Type 0
IsCounted text = (0 < text.count) × (text.count ≤ most_params)

-- the parameters that were collected, those before the last in the array
abbrev pub gathered : Collected → List ℕ → ArrayVec ℕ
gathered text params = held (take (text.count - 1) params ++ text.last ∷ [])

-- the state of what was collected
abbrev pub collected : Collected → List ℕ → ParserState
collected text params = CsiState text.private (gathered text params) text.over

-- ---- what the bytes come to

-- the command of an event, its parameters in an array
abbrev pub event_command : Option Event → List ℕ → Option Command
event_command None params = None
event_command (Some Error) params = Some command.Error
event_command (Some (Control byte)) params = Some (command.Control byte)
event_command (Some (Esc inter last)) params = Some (command.Esc inter last)
event_command (Some (Csi private count last)) params = Some (command.Csi private (held (take count params)) last)
event_command (Some (Vt52 last)) params = Some (command.Vt52 last)
event_command (Some (Vt52Address line column)) params = Some (command.Vt52Address line column)

-- the command of a token, if there is one
abbrev pub command_told : Option Token → Option Command
command_told None = None
command_told (Some token) = Some (command_of_token token)

-- the machine's outcome that an event tells
abbrev pub event_transition : Option Event → List ℕ → ParserState → Transition
event_transition event params state = record { state = state; command = event_command event params }

-- so many of the bytes led from a state to what came
abbrev pub Reads : ParserState → Mode → List ℕ → ℕ × Option Event → List ℕ → ParserState → Type 0
Reads start mode bytes read params state =
    Arrives start mode (take read.0 bytes) (event_transition read.1 params state)

-- what came has this outcome, whatever lies in the array
abbrev pub IsTransition : Option Event → ParserState → Transition → Type 0
IsTransition event state outcome = (params : List ℕ) → event_transition event params state ≡ outcome

-- the parameters of an event lie in the array
abbrev pub IsLent : Option Event → Type 0
IsLent (Some (Csi private count last)) = count ≤ most_params
IsLent _ = Unit {0}

-- from wherever bytes led to a state, more of them lead to another one
abbrev pub GoesOn : List ℕ → ParserState → List ℕ → Transition → Type 0
GoesOn front state bytes outcome =
    (start : ParserState) (mode : Mode) → Arrives start mode front (moves_to state) → Arrives start mode bytes outcome
