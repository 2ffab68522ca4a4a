-- What a parser tells of the bytes that it takes.
use Rattle.std.specs.Prelude.{◌≡◌, ℕ, true, List, [], slice_index, Option, Some, None}
use Rattle.std.specs.List.{list_all}
use Rattle.vt_parser.specs.declared.commands.Mode.{Mode}
use Rattle.vt_parser.specs.declared.commands.Command.{Command}
use Rattle.vt_parser.specs.declared.commands.Command.TheVariants as command
use Rattle.vt_parser.specs.declared.commands.Token.{Token}
use Rattle.vt_parser.specs.declared.commands.Token.TheVariants.{Show, Error, Control, Esc, Csi, Vt52, Vt52Address}
use Rattle.vt_parser.specs.declared.states.ParserState.{ParserState}
use Rattle.vt_parser.specs.Syntax.{is_graphic}
use Rattle.vt_parser.specs.Forms.{held}
use Rattle.vt_parser.specs.View.{parser_view}
use Rattle.vt_parser.specs.Fold.{mode_after_bytes, pending_after_bytes, Gives}

-- the command of a token of one byte or of one sequence
abbrev pub command_of_token : Token → Command
command_of_token (Show run) = command.Show (slice_index run.now 0)
command_of_token Error = command.Error
command_of_token (Control byte) = command.Control byte
command_of_token (Esc inter last) = command.Esc inter last
command_of_token (Csi private params last) = command.Csi private (held params.now) last
command_of_token (Vt52 last) = command.Vt52 last
command_of_token (Vt52Address line column) = command.Vt52Address line column

-- graphic characters that come where nothing is pending
pub record IsRun (pending bytes run : List ℕ) : Type 0 where
  pub ground : pending ≡ []
  pub whole : run ≡ bytes
  pub graphic : list_all is_graphic bytes ≡ true

-- The token is what the bytes come to after these pending bytes: they are a run, or its command comes with the last of
-- them.
abbrev pub TellsOf : Mode → Mode → List ℕ → List ℕ → Option Token → Type 0
TellsOf given mode pending bytes None = Gives given mode pending bytes None
TellsOf given mode pending bytes (Some (Show run)) = IsRun pending bytes run.now
TellsOf given mode pending bytes (Some token) = Gives given mode pending bytes (Some (command_of_token token))

-- After the bytes the new state shows what is pending, whatever pending bytes the old state shows.
abbrev pub Leads : ParserState → Mode → List ℕ → ParserState → Type 0
Leads state given bytes new =
    (mode : Mode) (pending : List ℕ) → parser_view mode pending ≡ Some state
    → parser_view (mode_after_bytes given mode bytes) (pending_after_bytes given mode pending bytes) ≡ Some new
