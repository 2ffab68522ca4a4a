-- Which finished sequences are played: those of which the form has a row in the tables that play them. What a command
-- leaves of the mode alone.
use Rattle.std.specs.Prelude.{◌≡◌, ℕ, Bool, true, false, List, [], fold, Option, Some, None, is_some}
use Rattle.vt_parser.specs.declared.commands.Mode.{Mode}
use Rattle.vt_parser.specs.declared.commands.Mode.TheVariants.{Ansi, Vt52 as Vt52Mode}
use Rattle.vt_parser.specs.declared.commands.Command.{Command}
use Rattle.vt_parser.specs.declared.commands.Command.TheVariants.{Esc, Csi, Vt52}
use Rattle.vt_term.specs.declared.profile.Profile.{Profile}
use Rattle.vt_term.specs.declared.modes.Modes.{Modes}
use Rattle.vt_term.specs.Rows.{named}
use Rattle.vt_term.specs.Console.{Console}
use Rattle.vt_term.specs.Escapes.{Escape, Ris, escape_named}
use Rattle.vt_term.specs.Sequences.{sequences, is_row_of, ansi_modes, is_mode_of, ansi_mode_set}
use Rattle.vt_term.specs.PrivateModes.{PrivateMode, Decanm, private_modes, switches, mode_set}
use Rattle.vt_term.specs.Vt52.{Vt52Sequence, EnterAnsi, vt52_sequences}
use Rattle.vt_term.specs.Effect.{effect, reply}

-- ---- what has a row

-- there is a row, and the profile has it
abbrev pub has_row_of : {Name : Type 0} → (Name → Bool) → Option Name → Bool
has_row_of is_of None = false
has_row_of is_of (Some row) = is_of row

-- an escape sequence, by its intermediate and its final byte
abbrev pub escape_has_row : Option ℕ → ℕ → Bool
escape_has_row inter last = is_some (escape_named inter last)

-- a control sequence, with `?` or without, by its final byte
abbrev pub sequence_has_row : Profile → Bool → ℕ → Bool
sequence_has_row profile true last = is_some (named switches last)
sequence_has_row profile false last = has_row_of (is_row_of profile) (named sequences last)

-- a parameter of h and l, with `?` or without
abbrev pub mode_has_row : Profile → Bool → ℕ → Bool
mode_has_row profile true param = is_some (named private_modes param)
mode_has_row profile false param = has_row_of (is_mode_of profile) (named ansi_modes param)

-- a sequence of VT52 mode, by its final byte
abbrev pub vt52_has_row : ℕ → Bool
vt52_has_row last = is_some (named vt52_sequences last)

-- A command of the parser. Characters, controls and a direct cursor address are always played; parameters of h and l
-- are asked for by themselves.
abbrev pub has_row : Profile → Command → Bool
has_row profile (Esc inter last) = escape_has_row inter last
has_row profile (Csi private params last) = sequence_has_row profile private last
has_row profile (Vt52 last) = vt52_has_row last
has_row profile _ = true

-- ---- the mode alone

-- RIS leaves ANSI mode (EK-VT100-UG chapter 3)
abbrev pub mode_by_escape : Option Escape → Mode → Mode
mode_by_escape (Some Ris) mode = Ansi
mode_by_escape _ mode = mode

-- DECANM reset leaves VT52 mode (EK-VT100-UG chapter 3)
abbrev pub mode_by_reset : Option PrivateMode → Mode → Mode
mode_by_reset (Some Decanm) mode = Vt52Mode
mode_by_reset _ mode = mode

-- every parameter where modes are reset
abbrev pub mode_by_switch : Option Bool → List ℕ → Mode → Mode
mode_by_switch (Some false) params mode =
    fold (λ left param. mode_by_reset (named private_modes param) left) mode params
mode_by_switch _ params mode = mode

-- ESC < leaves ANSI mode (EK-VT100-UG chapter 3)
abbrev pub mode_by_vt52 : Option Vt52Sequence → Mode → Mode
mode_by_vt52 (Some EnterAnsi) mode = Ansi
mode_by_vt52 _ mode = mode

-- the mode that a command leaves
abbrev pub mode_left : Command → Mode → Mode
mode_left (Esc inter last) mode = mode_by_escape (escape_named inter last) mode
mode_left (Csi true params last) mode = mode_by_switch (named switches last) params.items mode
mode_left (Vt52 last) mode = mode_by_vt52 (named vt52_sequences last) mode
mode_left _ mode = mode

-- ---- the laws

-- What has no row does nothing, and there is no reply to it ..
abbrev pub RowlessDoNothing : Type 0
RowlessDoNothing =
    (command : Command) (s : Console) → has_row s.profile command ≡ false
    → (effect command s ≡ s) × (reply command s ≡ [])

-- .. nor does a parameter of h and l, with `?` ..
abbrev pub RowlessModesStay : Type 0
RowlessModesStay =
    (value : Bool) (s : Console) (param : ℕ) → mode_has_row s.profile true param ≡ false → mode_set value s param ≡ s

-- .. or without.
abbrev pub RowlessAnsiModesStay : Type 0
RowlessAnsiModesStay =
    (profile : Profile) (value : Bool) (modes : Modes) (param : ℕ) → mode_has_row profile false param ≡ false
    → ansi_mode_set profile value modes param ≡ modes

-- The mode that a command leaves goes by the mode before it, and by nothing else of a terminal.
abbrev pub ModeGoesAlone : Type 0
ModeGoesAlone = (command : Command) (s : Console) → (effect command s).modes.mode ≡ mode_left command s.modes.mode
