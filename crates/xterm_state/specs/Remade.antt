-- What a state text makes of a terminal.
use Rattle.std.specs.Prelude.{◌≡◌, ℕ, ◌+◌, ◌*◌, ◌≤◌, not, List, [], length, unwrap_or}
use Rattle.std.specs.List.{count_by}
use Rattle.vt_parser.specs.declared.commands.Mode.TheVariants.{Ansi}
use Rattle.vt_parser.specs.declared.states.ParserState.TheVariants.{Ground}
use Rattle.vt_parser.specs.View.{parser_view}
use Rattle.xterm_term.specs.Console.{Console}
use Rattle.xterm_term.specs.Seen.{Seen, Shows}
use Rattle.xterm_term.specs.Size.{IsSize}
use Rattle.xterm_term.specs.SameSize.{SameSize}
use Rattle.xterm_term.specs.Term.{Term, reset_term, play, sent}
use Rattle.xterm_escaped.specs.EscapedText.{escaped_text}
use Rattle.xterm_state.specs.StateText.{state_text}

-- a term that bytes make of the reset term of some size
abbrev pub ComesOfReset : Term → Type 0
ComesOfReset y =
    (columns : ℕ) × (lines : ℕ) × (bytes : List ℕ) × IsSize columns lines × (y ≡ play (reset_term columns lines) bytes)

-- the state text of the term that the reset one of a size comes to by some bytes
abbrev pub text_after : ℕ → ℕ → List ℕ → List ℕ
text_after columns lines bytes =
    let x = play (reset_term columns lines) bytes in
    state_text x.console (unwrap_or (parser_view Ansi x.sequence) Ground) x.character

-- The state text of such a term makes any term of its size, whatever is pending there, one of which the same is seen,
-- and sends nothing.
abbrev pub MakesAnyThis : Type 0
MakesAnyThis =
    (seen : Seen) (y x : Term) → ComesOfReset y → Shows seen y → SameSize y.console x.console
    → Shows seen (play x (state_text seen.console seen.state seen.character))
    × (sent x (state_text seen.console seen.state seen.character) ≡ [])

-- the same with the other sheet shown
abbrev pub turned : Console → Console
turned s = record s {
  picture = record s.picture { rows = s.picture.other; other = s.picture.rows; alternate = not s.picture.alternate };
}

-- It is at most as long as the escaped prints of both sheets, 16 bytes for each tab stop, and 2,048.
abbrev pub StateTextIsShort : Type 0
StateTextIsShort =
    (seen : Seen) (y : Term) → ComesOfReset y → Shows seen y
    → length (state_text seen.console seen.state seen.character)
    ≤ length (escaped_text seen.console) + length (escaped_text (turned seen.console))
    + 16 * count_by (λ stop. stop) seen.console.picture.tabs + 2048
