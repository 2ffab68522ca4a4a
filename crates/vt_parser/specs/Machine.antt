-- Private: the machine on states that the code runs, one byte from a state to a state with the command that it gives.
-- That it agrees with the raw bytes of every sequence is a lemma.
use Rattle.std.specs.Prelude.{◌≡◌, ◌≢◌, ℕ, ◌+◌, ◌-◌, ◌*◌, min, Bool, true, false, not, ◌==◌, ◌||◌, nat_lt, if◌then◌else◌, List, [], ◌∷◌, ◌++◌, length, Option, Some, None}
use Rattle.arrayvec.specs.ArrayVec.{ArrayVec}
use Rattle.vt_parser.specs.declared.commands.Mode.{Mode}
use Rattle.vt_parser.specs.declared.commands.Mode.TheVariants.{Ansi, Vt52 as Vt52Mode}
use Rattle.vt_parser.specs.declared.commands.Command.{Command}
use Rattle.vt_parser.specs.declared.commands.Command.TheVariants.{Show, Error, Esc, Csi as CsiCommand, Vt52, Vt52Address}
use Rattle.vt_parser.specs.declared.syntax.Context.{Context}
use Rattle.vt_parser.specs.declared.syntax.Context.TheVariants as context
use Rattle.vt_parser.specs.declared.syntax.Action.{Action}
use Rattle.vt_parser.specs.declared.syntax.Action.TheVariants.{Ignore, Execute, Print, Mark, Begin, Join, End, Cancel}
use Rattle.vt_parser.specs.declared.states.ParserState.{ParserState}
use Rattle.vt_parser.specs.declared.states.ParserState.TheVariants.{Ground, Escape, EscapeOne, EscapeMany, CsiStart, Csi, CsiIgnored, Text, Vt52Escape, Vt52Line, Vt52Column}
use Rattle.vt_parser.specs.declared.states.Formless.{Formless}
use Rattle.vt_parser.specs.declared.states.Formless.TheVariants as formless
use Rattle.vt_parser.specs.Syntax.{action_of}
use Rattle.vt_parser.specs.Forms.{is_intermediate, is_escape_final, is_control_sequence_final, begins_control_sequence, begins_string, begins_address, is_digit, is_semicolon, question_mark, greatest_param, most_params, held, front, final}
use Rattle.vt_parser.specs.Step.{control_of}

-- where a state is
abbrev pub context_in : ParserState → Context
context_in Ground = context.Ground
context_in Text = context.Text
context_in _ = context.Sequence

-- the state after a byte, and its command
pub record Transition : Type 0 where
  pub state : ParserState
  pub command : Option Command

abbrev pub moves_to : ParserState → Transition
moves_to state = record { state = state; command = None }

abbrev pub gives : Option Command → Transition
gives command = record { state = Ground; command = command }

-- a number with one more digit, at most the greatest parameter
abbrev pub with_digit : ℕ → ℕ → ℕ
with_digit value digit = min greatest_param (10 * value + (digit - 48))

-- the list with one more digit in its last number
abbrev pub with_last_digit : List ℕ → ℕ → List ℕ
with_last_digit params digit = front params ++ with_digit (final params) digit ∷ []

abbrev pub escape_joined : ℕ → Transition
escape_joined byte =
    if is_intermediate byte then moves_to (EscapeOne byte)
    else (if begins_control_sequence byte then moves_to CsiStart
    else (if begins_string byte then moves_to Text
    else gives (Some (Esc None byte))))

abbrev pub digit_joined : Bool → ArrayVec ℕ → Bool → ℕ → ParserState
digit_joined private params over digit =
    if over then Csi private params true else Csi private (held (with_last_digit params.items digit)) false

abbrev pub semicolon_joined : Bool → ArrayVec ℕ → Bool → ParserState
semicolon_joined private params over =
    if nat_lt (length params.items) most_params then Csi private (held (params.items ++ 0 ∷ [])) over
    else Csi private params true

abbrev pub control_sequence_joined : Bool → ArrayVec ℕ → Bool → ℕ → Transition
control_sequence_joined private params over byte =
    if is_control_sequence_final byte then gives (Some (CsiCommand private params byte))
    else (if is_digit byte then moves_to (digit_joined private params over byte)
    else (if is_semicolon byte then moves_to (semicolon_joined private params over)
    else moves_to CsiIgnored))

-- the first byte of a text: `?` marks it, and any other joins as if it followed a parameter 0
abbrev pub start_joined : ℕ → Transition
start_joined byte =
    if byte == question_mark then moves_to (Csi true (held (0 ∷ [])) false)
    else control_sequence_joined false (held (0 ∷ [])) false byte

-- a byte that joins, 32 to 126
unfoldable pub joined : ParserState → ℕ → Transition
joined Ground byte = moves_to Ground
joined Text byte = moves_to Text
joined Escape byte = escape_joined byte
joined (EscapeOne inter) byte =
    if is_intermediate byte then moves_to EscapeMany else gives (Some (Esc (Some inter) byte))
joined EscapeMany byte = if is_intermediate byte then moves_to EscapeMany else gives None
joined CsiStart byte = start_joined byte
joined (Csi private params over) byte = control_sequence_joined private params over byte
joined CsiIgnored byte = if is_control_sequence_final byte then gives None else moves_to CsiIgnored
joined Vt52Escape byte = if begins_address byte then moves_to Vt52Line else gives (Some (Vt52 byte))
joined Vt52Line byte = moves_to (Vt52Column byte)
joined (Vt52Column line) byte = gives (Some (Vt52Address (line - 31) (byte - 31)))

-- the sequence without a command that a byte ends
abbrev pub formless_at : ParserState → ℕ → Option Formless
formless_at EscapeMany byte = if is_escape_final byte then Some (formless.Escape byte) else None
formless_at CsiIgnored byte = if is_control_sequence_final byte then Some (formless.ControlSequence byte) else None
formless_at _ byte = None

-- ESC in a mode
abbrev pub begun : Mode → ParserState
begun Ansi = Escape
begun Vt52Mode = Vt52Escape

abbrev pub stepped_by : Action → ParserState → Mode → ℕ → Transition
stepped_by Ignore state mode byte = moves_to state
stepped_by Execute state mode byte = record { state = state; command = control_of byte }
stepped_by Print state mode byte = record { state = state; command = Some (Show byte) }
stepped_by Mark state mode byte = record { state = state; command = Some Error }
stepped_by Begin state mode byte = moves_to (begun mode)
stepped_by Join state mode byte = joined state byte
stepped_by End state mode byte = moves_to Ground
stepped_by Cancel state mode byte = gives (Some Error)

-- one step of the machine
unfoldable pub stepped : ParserState → Mode → ℕ → Transition
stepped state mode byte = stepped_by (action_of (context_in state) byte) state mode byte

-- the machine over bytes: with the last of them this step is made, and no command comes before it
abbrev pub Runs : ParserState → Mode → List ℕ → Transition → Type 0
Runs state mode [] step = moves_to state ≡ step
Runs state mode (byte ∷ []) step = stepped state mode byte ≡ step
Runs state mode (byte ∷ next ∷ rest) step =
    ((stepped state mode byte).command ≡ None) × Runs (stepped state mode byte).state mode (next ∷ rest) step

-- no byte but the first ends a sequence without a command
abbrev pub Passes : ParserState → Mode → List ℕ → Type 0
Passes state mode [] = Unit {0}
Passes state mode (byte ∷ []) = Unit {0}
Passes state mode (byte ∷ next ∷ rest) =
    (formless_at (stepped state mode byte).state next ≡ None)
    × Passes (stepped state mode byte).state mode (next ∷ rest)

-- with the last byte this step is made; no command comes before it, and no byte but the first ends a sequence without one
pub record Arrives (state : ParserState) (mode : Mode) (bytes : List ℕ) (step : Transition) : Type 0 where
  pub runs : Runs state mode bytes step
  pub passes : Passes state mode bytes

-- in ANSI mode the machine gives no command for these bytes, and isn't on ground behind any of them
abbrev pub Holds : ParserState → List ℕ → Type 0
Holds state [] = Unit {0}
Holds state (byte ∷ rest) =
    ((stepped state Ansi byte).command ≡ None) × ((stepped state Ansi byte).state ≢ Ground)
    × Holds (stepped state Ansi byte).state rest

-- a control sequence is begun
abbrev pub is_text_begun : ParserState → Bool
is_text_begun CsiStart = true
is_text_begun (Csi private params over) = true
is_text_begun CsiIgnored = true
is_text_begun _ = false

-- a byte that a string skips
abbrev pub is_skipped : ℕ → Bool
is_skipped byte = not (byte == 7 || byte == 24 || byte == 26 || byte == 27)
