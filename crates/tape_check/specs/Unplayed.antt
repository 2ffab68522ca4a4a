-- How an unplayed sequence is written: ESC and its parts, a space between any two (ours).
use Rattle.std.specs.Prelude.{ℕ, Bool, true, false, ◌==◌, ◌||◌, if◌then◌else◌, List, [], ◌∷◌, ◌++◌, Option, Some, None, codes, decimal}
use Rattle.std.specs.List.{flat_map}
use Rattle.vt_parser.specs.declared.commands.Command.{Command}
use Rattle.vt_parser.specs.declared.commands.Command.TheVariants.{Esc, Csi, Vt52}
use Rattle.vt_parser.specs.declared.states.Formless.{Formless}
use Rattle.vt_parser.specs.declared.states.Formless.TheVariants as formless
use Rattle.vt_term.specs.Played as vt
use Rattle.xterm_term.specs.Played as today
use Rattle.tape_check.specs.declared.played.PlayedAs.{PlayedAs}
use Rattle.tape_check.specs.declared.played.PlayedAs.TheVariants.{Vt, Today}
use Rattle.tape_check.specs.Quiet.{ends_string, is_quiet_escape, is_quiet_sequence, is_quiet_mode}
use Rattle.tape_check.specs.declared.unplayed.Head.{Head}
use Rattle.tape_check.specs.declared.unplayed.Head.TheVariants as head

-- ---- names

-- what a name begins with
unfoldable pub head_text : Head → List ℕ
head_text head.Escape = codes "ESC "
head_text head.LongEscape = codes "ESC .. "
head_text head.Control = codes "ESC [ "
head_text head.PrivateControl = codes "ESC [ ? "
head_text head.IllFormed = codes "ESC [ .. "

-- ESC and a final byte
abbrev pub lone_name : ℕ → List ℕ
lone_name last = head_text head.Escape ++ last ∷ []

-- the same with an intermediate between, where there is one
abbrev pub escape_name : Option ℕ → ℕ → List ℕ
escape_name None last = lone_name last
escape_name (Some inter) last = head_text head.Escape ++ inter ∷ 32 ∷ last ∷ []

-- ESC and `[`, with `?` or without
abbrev pub control_head : Bool → Head
control_head true = head.PrivateControl
control_head false = head.Control

-- these and a final byte
abbrev pub sequence_name : Bool → ℕ → List ℕ
sequence_name private last = head_text (control_head private) ++ last ∷ []

-- the same with a parameter between
abbrev pub mode_name : Bool → ℕ → ℕ → List ℕ
mode_name private last param = head_text (control_head private) ++ decimal param ++ 32 ∷ last ∷ []

-- of a sequence that has no command, by its form
abbrev pub formless_name : Formless → List ℕ
formless_name (formless.Escape last) = head_text head.LongEscape ++ last ∷ []
formless_name (formless.ControlSequence last) = head_text head.IllFormed ++ last ∷ []

-- ---- what has a row, in the tables that play

-- an escape sequence
abbrev pub escape_has_row : PlayedAs → Option ℕ → ℕ → Bool
escape_has_row (Vt profile) inter last = vt.escape_has_row inter last
escape_has_row (Today columns lines) inter last = today.escape_has_row inter last

-- a control sequence
abbrev pub sequence_has_row : PlayedAs → Bool → ℕ → Bool
sequence_has_row (Vt profile) private last = vt.sequence_has_row profile private last
sequence_has_row (Today columns lines) private last = today.sequence_has_row private last

-- a parameter of h and l
abbrev pub mode_has_row : PlayedAs → Bool → ℕ → Bool
mode_has_row (Vt profile) private param = vt.mode_has_row profile private param
mode_has_row (Today columns lines) private param = today.mode_has_row private param

-- ---- what is unplayed

-- h and l, which set and reset modes (EK-VT100-UG chapter 3)
abbrev pub is_switch : ℕ → Bool
is_switch last = (last == 104) || (last == 108)

-- the name as a list, unless it is left out
abbrev pub unless : Bool → List ℕ → List (List ℕ)
unless true name = []
unless false name = name ∷ []

-- of an escape sequence
abbrev pub escape_names : PlayedAs → Option ℕ → ℕ → List (List ℕ)
escape_names played inter last =
    unless (escape_has_row played inter last || is_quiet_escape played inter last) (escape_name inter last)

-- of a parameter of h or l
abbrev pub mode_names : PlayedAs → Bool → ℕ → ℕ → List (List ℕ)
mode_names played private last param =
    unless (mode_has_row played private param || is_quiet_mode played private param) (mode_name private last param)

-- of a control sequence; each parameter of h and l counts by itself
abbrev pub sequence_names : PlayedAs → Bool → List ℕ → ℕ → List (List ℕ)
sequence_names played private params last =
    if is_switch last then flat_map (mode_names played private last) params
    else unless (sequence_has_row played private last || is_quiet_sequence played private last)
    (sequence_name private last)

-- of a sequence of VT52 mode, which no terminal of today has
abbrev pub vt52_names : ℕ → List (List ℕ)
vt52_names last = unless (vt.vt52_has_row last || ends_string last) (lone_name last)

-- the unplayed sequences of a command: names, as often as they count
abbrev pub command_names : PlayedAs → Option Command → List (List ℕ)
command_names played (Some (Esc inter last)) = escape_names played inter last
command_names played (Some (Csi private params last)) = sequence_names played private params.items last
command_names played (Some (Vt52 last)) = vt52_names last
command_names played _ = []

-- of a sequence that has no command
abbrev pub formless_names : Option Formless → List (List ℕ)
formless_names None = []
formless_names (Some form) = formless_name form ∷ []
