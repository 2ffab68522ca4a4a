-- What a terminal's queries tell of a term.
use Rattle.std.specs.Prelude.{◌≡◌, ℕ, List, Some}
use Rattle.vt_parser.specs.declared.commands.Mode.TheVariants.{Ansi}
use Rattle.vt_parser.specs.declared.states.ParserState.{ParserState}
use Rattle.vt_parser.specs.View.{parser_view}
use Rattle.sheet.specs.Cells.{Cell}
use Rattle.sheet.specs.Grid.{AreMarked, AreTold}
use Rattle.xterm_term.specs.declared.console.Console.{Console as Fields}
use Rattle.xterm_term.specs.Console.{Console, IsSafe, console_of}
use Rattle.xterm_term.specs.Term.{Term}

-- all of a term but the reports, with a parser's state and the bytes of a character that isn't finished in place of what
-- is pending, and for each line of the sheet that is shown the one whose row it has, as rows stood when the marks were
-- last cleared; 0 where that isn't known
pub record Seen : Type 0 where
  pub console : Console
  pub state : ParserState
  pub character : List ℕ
  pub origins : List ℕ

-- a terminal shows a term: its queries tell what is seen of it
pub record Shows (seen : Seen) (x : Term) : Type 0 where
  pub console : x.console ≡ seen.console
  pub state : parser_view Ansi x.sequence ≡ Some seen.state
  pub character : x.character ≡ seen.character

-- each line whose origin is known has the row that this one had before (ours)
abbrev pub Told : List (List Cell) → Seen → Type 0
Told before seen = AreTold before seen.origins seen.console.picture.rows

-- its marks tell what of the rows of before it has (ours)
abbrev pub Tells : List (List Cell) → Seen → Type 0
Tells before seen = AreMarked before seen.origins seen.console.picture.rows

-- Private: whatever rows a terminal is told against, it is then too
abbrev pub KeepsTold : Seen → Seen → Type 0
KeepsTold seen next = (before : List (List Cell)) → Told before seen → Told before next

-- what every terminal keeps: it is safe, and shows some term
pub record IsTerminal (seen : Seen) : Type 0 where
  pub safe : IsSafe seen.console
  pub term : (x : Term) × Shows seen x

-- Private: what the fields of the code's terminal stand for
abbrev pub seen_of : Fields → ParserState → List ℕ → Seen
seen_of fields state character =
    record { console = console_of fields; state = state; character = character; origins = fields.screen.origins }
