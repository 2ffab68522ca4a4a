-- What holds of every step: the statements of the crate's laws.
use Rattle.std.specs.Prelude.{◌≡◌, ◌≢◌, ℕ, ◌+◌, ◌≤◌, ◌<◌, Bool, true, false, List, [], ◌∷◌, ◌++◌, length, Option, Some, None, IfSome, All}
use Rattle.std.specs.Option.{MatchOption}
use Rattle.vt_parser.specs.declared.commands.Mode.{Mode}
use Rattle.vt_parser.specs.declared.commands.Mode.TheVariants.{Ansi}
use Rattle.vt_parser.specs.declared.commands.Command.{Command}
use Rattle.vt_parser.specs.declared.commands.Command.TheVariants.{Show, Error, Control, Esc, Csi, Vt52, Vt52Address}
use Rattle.vt_parser.specs.declared.states.ParserState.{ParserState}
use Rattle.vt_parser.specs.declared.states.ParserState.TheVariants.{Ground}
use Rattle.vt_parser.specs.Syntax.{escape, is_within, is_graphic}
use Rattle.vt_parser.specs.Forms.{is_control_sequence_final, bracket, question_mark, greatest_param, params, held, most_params}
use Rattle.vt_parser.specs.View.{parser_view}
use Rattle.vt_parser.specs.Step.{command_of, pending_after, mode_after}
use Rattle.vt_parser.specs.Fold.{Finishes}
use Rattle.vt_parser.specs.Decimals.{params_text}

-- ---- words on commands

-- a number from low to high
abbrev pub IsFrom : ℕ → ℕ → ℕ → Type 0
IsFrom low high number = (low ≤ number) × (number ≤ high)

-- the numbers in a command are in their ranges
abbrev pub IsProper : Command → Type 0
IsProper (Show byte) = IsFrom 32 126 byte
IsProper Error = Unit {0}
IsProper (Control byte) = IsFrom 8 15 byte
IsProper (Esc inter last) = MatchOption inter (Unit {0}) (IsFrom 32 47) × IsFrom 48 126 last
IsProper (Csi private params last) =
    IsFrom 1 most_params (length params.items) × All (λ param. param ≤ greatest_param) params.items × IsFrom 64 126 last
IsProper (Vt52 last) = IsFrom 32 126 last × (last ≢ 89)
IsProper (Vt52Address line column) = IsFrom 1 95 line × IsFrom 1 95 column

-- the command of a whole sequence, and not of one byte
abbrev pub is_sequence : Command → Bool
is_sequence (Show byte) = false
is_sequence Error = false
is_sequence (Control byte) = false
is_sequence _ = true

-- how many bytes give such a command, at least
abbrev pub fewest_bytes : Command → ℕ
fewest_bytes (Esc inter last) = 2
fewest_bytes (Csi private params last) = 3
fewest_bytes (Vt52 last) = 2
fewest_bytes (Vt52Address line column) = 4
fewest_bytes _ = 1

-- the same where there may be no command
abbrev pub fewest_of : Option Command → ℕ
fewest_of None = 0
fewest_of (Some command) = fewest_bytes command

-- ---- the laws

-- A state shows all of what is pending that matters: pending bytes that show one state give one command after any byte,
-- and show one state again.
abbrev pub StateDecides : Type 0
StateDecides =
    (given m n : Mode) (p q : List ℕ) (state : ParserState) (byte : ℕ)
    → parser_view m p ≡ Some state → parser_view n q ≡ Some state
    → (command_of m p byte ≡ command_of n q byte)
    × (parser_view (mode_after given m byte) (pending_after m p byte)
    ≡ parser_view (mode_after given n byte) (pending_after n q byte))

-- What is pending after a byte is shown by a state again.
abbrev pub StaysShown : Type 0
StaysShown =
    (given m : Mode) (p : List ℕ) (state : ParserState) (byte : ℕ)
    → parser_view m p ≡ Some state
    → (next : ParserState) × (parser_view (mode_after given m byte) (pending_after m p byte) ≡ Some next)

-- Nothing pending is Ground in each mode, and only nothing.
abbrev pub GroundIsEmpty : Type 0
GroundIsEmpty =
    ((m : Mode) → parser_view m [] ≡ Some Ground)
    × ((m : Mode) (p : List ℕ) → parser_view m p ≡ Some Ground → p ≡ [])

-- A finished sequence leaves nothing pending, so that its effect may change the mode.
abbrev pub FinishedLeavesNothing : Type 0
FinishedLeavesNothing =
    (m : Mode) (p : List ℕ) (byte : ℕ) (command : Command)
    → command_of m p byte ≡ Some command → is_sequence command ≡ true → pending_after m p byte ≡ []

-- The bytes of a command are paid by the byte and by what was pending: what is pending may count as bytes that are
-- still to be paid.
abbrev pub PendingPays : Type 0
PendingPays =
    (m : Mode) (p : List ℕ) (byte : ℕ)
    → fewest_of (command_of m p byte) + length (pending_after m p byte) ≤ length p + 1

-- On ground a graphic character is shown, and the parser stays on ground.
abbrev pub GraphicIsShown : Type 0
GraphicIsShown =
    (m : Mode) (byte : ℕ) → is_graphic byte ≡ true
    → (command_of m [] byte ≡ Some (Show byte)) × (pending_after m [] byte ≡ [])

-- On ground BS, HT, LF, VT, FF, CR, SO and SI are commands, and the parser stays on ground.
abbrev pub ControlIsGiven : Type 0
ControlIsGiven =
    (m : Mode) (byte : ℕ) → is_within 8 15 byte ≡ true
    → (command_of m [] byte ≡ Some (Control byte)) × (pending_after m [] byte ≡ [])

-- The numbers of every command are in their ranges.
abbrev pub CommandsAreProper : Type 0
CommandsAreProper =
    (m : Mode) (p : List ℕ) (byte : ℕ) → IfSome (command_of m p byte) IsProper

-- ---- whole sequences of ANSI mode, as printers write them

-- numbers that a text can hold as its parameters
pub record AreParams (numbers : List ℕ) : Type 0 where
  pub some : 0 < length numbers
  pub few : length numbers ≤ most_params
  pub small : All (λ number. number ≤ greatest_param) numbers

-- Numbers that are written in decimal are the parameters that are read.
abbrev pub DecimalsAreRead : Type 0
DecimalsAreRead = (numbers : List ℕ) → AreParams numbers → params (params_text numbers) ≡ numbers

-- ESC [, numbers in decimal and a final byte; and the same with `?` before the numbers
abbrev pub WrittenSequencesFinish : Type 0
WrittenSequencesFinish =
    (numbers : List ℕ) (last : ℕ) → AreParams numbers → is_control_sequence_final last ≡ true
    → Finishes Ansi (escape ∷ bracket ∷ (params_text numbers ++ last ∷ [])) (Some (Csi false (held numbers) last))

abbrev pub WrittenPrivatesFinish : Type 0
WrittenPrivatesFinish =
    (numbers : List ℕ) (last : ℕ) → AreParams numbers → is_control_sequence_final last ≡ true
    → Finishes Ansi (escape ∷ bracket ∷ question_mark ∷ (params_text numbers ++ last ∷ []))
    (Some (Csi true (held numbers) last))
