-- What a command does to a terminal, and what the terminal replies.
use Rattle.std.specs.Prelude.{ℕ, Bool, true, false, List, []}
use Rattle.vt_parser.specs.declared.commands.Command.{Command}
use Rattle.vt_parser.specs.declared.commands.Token.{Token}
use Rattle.vt_parser.specs.Token.{command_of_token}
use Rattle.vt_parser.specs.declared.commands.Command.TheVariants.{Show, Error, Control, Esc, Csi, Vt52, Vt52Address}
use Rattle.xterm_term.specs.Rows.{named, effect_of}
use Rattle.xterm_term.specs.Console.{Console}
use Rattle.xterm_term.specs.Puts.{put, character_for}
use Rattle.xterm_term.specs.Controls.{controls, control_effect}
use Rattle.xterm_term.specs.Escapes.{escape_named, escape_effect}
use Rattle.xterm_term.specs.Sequences.{sequences, sequence_effect, param_or}
use Rattle.xterm_term.specs.PrivateModes.{switches, modes_set}
use Rattle.xterm_term.specs.Replies.{escape_reply, sequence_reply, reply_of}

-- a control sequence, with `?` or without
abbrev pub control_sequence_effect : Bool → ℕ → List ℕ → Console → Console
control_sequence_effect true last params s = effect_of (modes_set params) (named switches last) s
control_sequence_effect false last params s = effect_of (λ row. sequence_effect row params) (named sequences last) s

-- The effect of a command in ANSI mode: of a whole sequence, a control or a character. CAN and SUB, which the parser
-- tells as an error, show nothing (ours).
unfoldable pub effect : Command → Console → Console
effect (Show byte) s = put (character_for s byte) s
effect Error s = s
effect (Control byte) s = effect_of control_effect (named controls byte) s
effect (Esc inter last) s = effect_of escape_effect (escape_named inter last) s
effect (Csi private params last) s = control_sequence_effect private last params.items s
effect (Vt52 last) s = s
effect (Vt52Address line column) s = s

-- Private: the effect of a token that is no run: that of its command
abbrev pub token_effect : Token → Console → Console
token_effect token s = effect (command_of_token token) s

-- the reply to a control sequence: to none with `?`
abbrev pub control_sequence_reply : Bool → ℕ → List ℕ → Console → List ℕ
control_sequence_reply true last params s = []
control_sequence_reply false last params s =
    reply_of (λ row. sequence_reply row (param_or params 0 0)) (named sequences last) s

-- the reply to a command, which is sent before its effect; the others have none
unfoldable pub reply : Command → Console → List ℕ
reply (Esc inter last) s = reply_of escape_reply (escape_named inter last) s
reply (Csi private params last) s = control_sequence_reply private last params.items s
reply _ s = []

-- Private: the reply to a token
abbrev pub token_reply : Token → Console → List ℕ
token_reply token s = reply (command_of_token token) s
