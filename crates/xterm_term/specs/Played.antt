-- Which finished sequences are played: those of which the form has a row in the tables that play them. Whether a title is
-- read, by a command alone.
use Rattle.std.specs.Prelude.{◌≡◌, ℕ, Bool, true, false, [], Option, Some, is_some}
use Rattle.vt_parser.specs.declared.commands.Command.{Command}
use Rattle.vt_parser.specs.declared.commands.Command.TheVariants.{Esc, Csi}
use Rattle.xterm_term.specs.declared.modes.Modes.{Modes}
use Rattle.xterm_term.specs.Rows.{named}
use Rattle.xterm_term.specs.Console.{Console}
use Rattle.xterm_term.specs.Escapes.{Escape, Ris, Title, escape_named}
use Rattle.xterm_term.specs.Sequences.{sequences, ansi_modes, ansi_mode_set}
use Rattle.xterm_term.specs.PrivateModes.{private_modes, switches, mode_set}
use Rattle.xterm_term.specs.Effect.{effect, reply}

-- ---- what has a row

-- an escape sequence, by its intermediate and its final byte
abbrev pub escape_has_row : Option ℕ → ℕ → Bool
escape_has_row inter last = is_some (escape_named inter last)

-- a control sequence, with `?` or without, by its final byte
abbrev pub sequence_has_row : Bool → ℕ → Bool
sequence_has_row true last = is_some (named switches last)
sequence_has_row false last = is_some (named sequences last)

-- a parameter of h and l, with `?` or without
abbrev pub mode_has_row : Bool → ℕ → Bool
mode_has_row true param = is_some (named private_modes param)
mode_has_row false param = is_some (named ansi_modes param)

-- A command of the parser. Characters and controls are always played; parameters of h and l are asked for by themselves.
abbrev pub has_row : Command → Bool
has_row (Esc inter last) = escape_has_row inter last
has_row (Csi private params last) = sequence_has_row private last
has_row _ = true

-- ---- whether a title is read

-- ESC k begins one, and RIS leaves none (screen, tmux; EK-VT100-UG chapter 3)
abbrev pub title_by_escape : Option Escape → Bool → Bool
title_by_escape (Some Title) title = true
title_by_escape (Some Ris) title = false
title_by_escape _ title = title

-- behind a command
abbrev pub title_left : Command → Bool → Bool
title_left (Esc inter last) title = title_by_escape (escape_named inter last) title
title_left _ title = title

-- ---- the laws

-- What has no row does nothing, and there is no reply to it ..
abbrev pub RowlessDoNothing : Type 0
RowlessDoNothing =
    (command : Command) (s : Console) → has_row command ≡ false → (effect command s ≡ s) × (reply command s ≡ [])

-- .. nor does a parameter of h and l, with `?` ..
abbrev pub RowlessModesStay : Type 0
RowlessModesStay =
    (value : Bool) (s : Console) (param : ℕ) → mode_has_row true param ≡ false → mode_set value s param ≡ s

-- .. or without.
abbrev pub RowlessAnsiModesStay : Type 0
RowlessAnsiModesStay =
    (value : Bool) (modes : Modes) (param : ℕ) → mode_has_row false param ≡ false
    → ansi_mode_set value modes param ≡ modes

-- Whether a title is read behind a command goes by whether one was read before it, and by nothing else of a terminal.
abbrev pub TitleGoesAlone : Type 0
TitleGoesAlone = (command : Command) (s : Console) → (effect command s).title ≡ title_left command s.title
